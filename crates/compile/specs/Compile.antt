-- Compiling one function, on a machine with n registers: one equation of everything lent and answered.
use Rattle.std.specs.Prelude.{ℕ, ◌/◌, Bool, List, ◌++◌, leb, eqb, length, take, drop}
use Rattle.std.proofs.lemmas.List.Edits.{sets}
use Rattle.base.specs.Choice.{pick}
use Rattle.base.specs.Buffers.{zero_from}
use Rattle.base.specs.Emission.{Out}
use Rattle.input.specs.Forms.{both, words_ok}
use Rattle.judge.specs.Judged.{unfit}
use Rattle.assign.specs.Walk.{assigned, slots_made, top_used, slots_ok}
use Rattle.placing.specs.Placing.{room_ok as places_fit}
use Rattle.instrs.specs.Instrs.{Env, seen}
use Rattle.lists.specs.declared.Used.{Used}
use Rattle.lists.specs.Lists.{Lists, global_words, switch_words, lookup_words, value_words, lists_after, lists_fit}
use Rattle.used.specs.Used.{labels_at}
use Rattle.used.specs.Pens.{op_room}
use Rattle.first_checks.specs.Buffers.{Buffers, lists_of}
use Rattle.first_checks.specs.Checks.{used_ok, entry_ok}
use Rattle.assemble.specs.Assemble.{start_out, function_out}
use Rattle.own_entry.specs.OwnEntry.{functions_after}
use Rattle.compile.specs.Program.{Outcome}

-- The places of the values, and the program behind its used lengths: the function's own entry in the table is the pc that it starts at, its
-- constants and builtins are interned, strings first, its tables added.
abbrev pub places_of : ℕ → List ℕ → List ℕ
places_of n ws = (assigned n ws).map

abbrev pub new_lists : ℕ → List ℕ → Buffers → Used → Lists
new_lists n ws b u = lists_after ws (places_of n ws) (lists_of b) u

abbrev pub new_functions : List ℕ → Buffers → Used → List ℕ
new_functions ws b u = functions_after ws b.functions u

abbrev pub env_of : ℕ → List ℕ → Buffers → Used → Env
env_of n ws b u =
    seen ws (places_of n ws) (assigned n ws).noted (new_functions ws b u) (new_lists n ws b u).globals (new_lists n ws b u).builtins

-- before the first op, and after the last
abbrev pub start_of : List ℕ → Buffers → Used → Out
start_of ws b u = start_out ws b.ops b.spans b.labels u

unfoldable pub final_out : ℕ → List ℕ → Buffers → Used → Out
final_out n ws b u = function_out n (env_of n ws b u) u (top_used n ws) (slots_made n ws) (start_of ws b u)

-- the labels of a switch table's slots become pcs
abbrev pub new_targets : ℕ → List ℕ → Buffers → Used → List ℕ
new_targets n ws b u =
    take u.targets (new_lists n ws b u).targets ++ labels_at (final_out n ws b u).labels (drop u.targets (new_lists n ws b u).targets)

-- 9: the finished function needs more than is lent, or passes 65,534 of a kind
unfoldable pub room_ok : ℕ → List ℕ → Buffers → Used → Bool
room_ok n ws b u =
    both (places_fit ws b.places b.hints b.noted)
    (both (entry_ok ws b)
    (both (lists_fit (lists_of b) (new_lists n ws b u))
    (leb (length (final_out n ws b u).ops) (op_room b.ops b.spans))))

-- the refusal, the lowest number that applies, 0 for none
unfoldable pub refusal : ℕ → List ℕ → Buffers → Used → ℕ
refusal n ws b u =
    pick (words_ok ws)
    (pick (used_ok b u)
    (pick (eqb (unfit n ws b.functions) 0)
    (pick (slots_ok n ws)
    (pick (room_ok n ws b u)
    0
    9)
    8)
    (unfit n ws b.functions))
    2)
    1

-- Done: the program is longer by the function, what lies past the new used lengths is untouched, the function's own entry is replaced.
unfoldable pub done_of : ℕ → List ℕ → Buffers → Used → Outcome
done_of n ws b u =
    record {
      number = 0;
      used = record {
        ops = length (final_out n ws b u).ops;
        globals = length (new_lists n ws b u).globals / 2;
        builtins = length (new_lists n ws b u).builtins;
        switches = length (new_lists n ws b u).switches / 3;
        targets = length (new_lists n ws b u).targets;
        lookups = length (new_lists n ws b u).lookups / 5;
        values = length (new_lists n ws b u).values / 2;
      };
      buffers = record {
        ops = sets b.ops 0 (final_out n ws b u).ops;
        spans = sets b.spans 0 (final_out n ws b u).spans;
        globals = sets b.globals 0 (new_lists n ws b u).globals;
        builtins = sets b.builtins 0 (new_lists n ws b u).builtins;
        functions = new_functions ws b u;
        switches = sets b.switches 0 (new_lists n ws b u).switches;
        targets = sets b.targets 0 (new_targets n ws b u);
        lookups = sets b.lookups 0 (new_lists n ws b u).lookups;
        values = sets b.values 0 (new_lists n ws b u).values;
        places = sets b.places 0 (places_of n ws);
        hints = zero_from b.hints 0;
        noted = zero_from b.noted 0;
        labels = zero_from b.labels 0;
      };
    }

-- Refused: output before the old used lengths is kept, the rest and the place buffer are zeroed; a buffer whose used length passes its end is
-- unchanged, and so is the function table. Work room ends zero either way.
unfoldable pub refused_of : ℕ → Buffers → Used → Outcome
refused_of number b u =
    record {
      number = number;
      used = u;
      buffers = record {
        ops = zero_from b.ops u.ops;
        spans = zero_from b.spans u.ops;
        globals = zero_from b.globals (global_words u);
        builtins = zero_from b.builtins u.builtins;
        functions = b.functions;
        switches = zero_from b.switches (switch_words u);
        targets = zero_from b.targets u.targets;
        lookups = zero_from b.lookups (lookup_words u);
        values = zero_from b.values (value_words u);
        places = zero_from b.places 0;
        hints = zero_from b.hints 0;
        noted = zero_from b.noted 0;
        labels = zero_from b.labels 0;
      };
    }

unfoldable pub compiled : ℕ → List ℕ → Buffers → Used → Outcome
compiled n ws b u =
    pick (eqb (refusal n ws b u) 0) (done_of n ws b u) (refused_of (refusal n ws b u) b u)
