-- From step to step: what each step of compiling knows of those before it, and what they leave together.
use Rattle.std.specs.Prelude.{Ok, Err}
use Prim.Native.Nat.{ℕ, ◌*◌, ◌-◌, ◌≤◌, ◌<◌, min}
use mathlib.Core.Logic.{◌≢◌}
use mathlib.Core.Bool.{Bool, true, false}
use mathlib.Core.List.{List, ◌++◌}
use mathlib.Core.Path.{◌≡◌, refl, sym, ap, subst, ◌∙◌}
use native.Mathlib.Omega.{arith}
use borrow.Author.Tests.{leb-true, ltb-true, eq-eqb}
use lib.Dec.{leb, ltb}
use lib.ListN.{length, get_or, take, drop, length-append, length-take, length-drop, length-map}
use lib.Seq.{sets, length-sets, take_at, drop_at, take-append-le, drop-append-le}
use Rattle.base.specs.Choice.{pick}
use Rattle.base.specs.Limits.{most_of_a_kind}
use Rattle.base.specs.Emission.{Out}
use Rattle.base.proofs.Lists.{sets-front}
use Rattle.refusal.specs.declared.Refusal.{Refusal}
use Rattle.refusal.specs.Numbers.{number_of}
use Rattle.input.specs.Layout.{function_id, values}
use Rattle.input.specs.Forms.{both, words_ok}
use Rattle.input.proofs.Chain.{both-parts, seven_parts}
use Rattle.judge.specs.Judged.{unfit}
use Rattle.judge.proofs.Verdicts.{some}
use Rattle.assign.specs.Walk.{assigned, slots_ok}
use Rattle.ready.specs.Ready.{Ready}
use Rattle.instrs.specs.Instrs.{seen}
use Rattle.placing.specs.declared.Placed.{Placed}
use Rattle.placing.specs.Placing.{PlacesGiven, PlacesTried, room_ok as places_fit}
use Rattle.lists.specs.declared.Used.{Used}
use Rattle.lists.specs.Lists.{Lists, lists_after, lists_fit, Started, ListsReady, Made, Listed}
use Rattle.assemble.specs.Assemble.{start_out, function_out, Lowerable, ProgramReady}
use Rattle.own_entry.specs.OwnEntry.{functions_after, PlacesReady, Put, NotPut, Assembled}
use Rattle.used.specs.Used.{labels_for, labels_at}
use Rattle.used.specs.Pens.{op_room}
use Rattle.first_checks.specs.Buffers.{Buffers, lists_of, lent}
use Rattle.first_checks.specs.Checks.{used_ok, entry_ok, Sized}
use Rattle.compile.specs.Compile.{places_of, new_lists, final_out, new_targets, room_ok, refusal, done_of}
use Rattle.compile.specs.Attempt.{Kept, Attempted}
use Rattle.placing.proofs.Low.{places_are, places_low}
use Rattle.compile.proofs.Lowerable.{ready_given, lowerable_given}
use Rattle.lists.proofs.Made.{Counted, counted, listed_fits}
use Rattle.compile.proofs.Refused.{passed, at_early, at_places, at_test, room_fits}

-- slots behind the first u that become pcs in their buffer are the new slots stored there
relabelled : (buf l labels : List ℕ) (u k : ℕ) → k ≡ length l → u ≤ length l → length l ≤ length buf
    → take u (sets buf 0 l) ++ labels_at labels (take (k - u) (drop u (sets buf 0 l))) ++ drop k (sets buf 0 l)
    ≡ sets buf 0 (take u l ++ labels_at labels (drop u l))
relabelled buf l labels u k e h m =
    let f : length (drop u l) ≡ k - u = length-drop u l ∙ omega (arith, e) in
    let g : length (take u l ++ labels_at labels (drop u l)) ≡ length l =
    simp (length-append, length-map, length-take, length-drop) (omega arith) in
    rw (
      sets-front buf l m,
      take-append-le u l (drop (length l) buf) h,
      drop-append-le u l (drop (length l) buf) h,
      take_at (drop u l) (drop (length l) buf) (k - u) f,
      drop_at l (drop (length l) buf) k (sym e),
    )
    (sym (sets-front buf (take u l ++ labels_at labels (drop u l)) (omega (arith, g)) ∙ rw g))

-- the lengths of the buffers, as the entry takes them
pub sized : (b : Buffers)
    → Sized
    (record {
      ops = length b.ops;
      spans = length b.spans;
      globals = length b.globals;
      builtins = length b.builtins;
      functions = length b.functions;
      switches = length b.switches;
      targets = length b.targets;
      lookups = length b.lookups;
      values = length b.values;
      labels = length b.labels;
    })
    b
sized b =
    record {
      ops = refl;
      spans = refl;
      globals = refl;
      builtins = refl;
      functions = refl;
      switches = refl;
      targets = refl;
      lookups = refl;
      values = refl;
      labels = refl;
    }

-- used lengths that pass refusal 2
record Uses (b : Buffers) (u : Used) : Type 0 where
  started : Started u (lists_of b)
  ops_room : u.ops ≤ op_room b.ops b.spans
  switches_few : u.switches ≤ 65534
  lookups_few : u.lookups ≤ 65534

uses : (b : Buffers) (u : Used) → used_ok b u ≡ true → Uses b u
unfolding used_ok
uses b u e =
    let p = both-parts (both (leb (1 * u.ops) (length b.ops)) (leb u.ops most_of_a_kind)) _ e in
    let s =
    seven_parts
    (both (leb (1 * u.ops) (length b.spans)) (leb u.ops most_of_a_kind))
    (both (leb (2 * u.globals) (length b.globals)) (leb u.globals most_of_a_kind))
    (both (leb (1 * u.builtins) (length b.builtins)) (leb u.builtins most_of_a_kind))
    (both (leb (3 * u.switches) (length b.switches)) (leb u.switches most_of_a_kind))
    (both (leb (1 * u.targets) (length b.targets)) (ltb u.targets 4294967296))
    (both (leb (5 * u.lookups) (length b.lookups)) (leb u.lookups most_of_a_kind))
    (both (leb (2 * u.values) (length b.values)) (ltb u.values 4294967296))
    p.1 in
    let t = both-parts (leb (1 * u.targets) (length b.targets)) _ s.fifth in
    let v = both-parts (leb (2 * u.values) (length b.values)) _ s.seventh in
    record {
      started = record {
        globals = room_fits 2 u.globals (length b.globals) (omega arith) s.second;
        builtins = omega (arith, room_fits 1 u.builtins (length b.builtins) (omega arith) s.third);
        switches = room_fits 3 u.switches (length b.switches) (omega arith) s.fourth;
        targets = omega (arith, leb-true (1 * u.targets) (length b.targets) t.0);
        targets_few = ltb-true _ _ t.1;
        lookups = room_fits 5 u.lookups (length b.lookups) (omega arith) s.sixth;
        values = leb-true _ _ v.0;
        values_few = ltb-true _ _ v.1;
      };
      ops_room = omega (arith, room_fits 1 u.ops (length b.ops) (omega arith) p.0, room_fits 1 u.ops (length b.spans) (omega arith) s.first);
      switches_few = leb-true _ _ (both-parts (leb (3 * u.switches) (length b.switches)) _ s.fourth).1;
      lookups_few = leb-true _ _ (both-parts (leb (5 * u.lookups) (length b.lookups)) _ s.sixth).1;
    }

-- what is put, by what stands in the buffers
abbrev out_of : ℕ → List ℕ → Buffers → Used → List ℕ → List ℕ → Lists → Used → Placed → Out
out_of n ws b u places noted lists l p =
    function_out n
    (seen ws (take (values ws) places) (take (values ws) noted) (functions_after ws b.functions u) (take (2 * l.globals) lists.globals)
    (take l.builtins lists.builtins))
    u p.top p.slots (start_out ws b.ops b.spans b.labels u)

-- a refusal has a number
numbered : (why : Refusal) → number_of why ≢ 0
numbered why e = let z : ◌≡◌ {A = Bool} true false = sym (eq-eqb (number_of why) 0 e) ∙ some why in cc

-- nothing behind the used lengths has changed, whatever the places and the work room
abbrev still : Buffers → List ℕ → List ℕ → List ℕ → Buffers
still b places hints noted =
    lent b.ops b.spans b.globals b.builtins b.functions b.switches b.targets b.lookups b.values places hints noted b.labels

-- with the lists made or not
abbrev left : Lists → List ℕ → List ℕ → List ℕ → List ℕ → List ℕ → List ℕ → List ℕ → List ℕ → Buffers
left g places hints noted ops spans functions targets labels =
    lent ops spans g.globals g.builtins functions g.switches targets g.lookups g.values places hints noted labels

still_kept : (u : Used) (b : Buffers) (places hints noted : List ℕ) → Kept u b (still b places hints noted)
still_kept u b places hints noted =
    record {
      ops_kept = refl;
      spans_kept = refl;
      globals_kept = refl;
      builtins_kept = refl;
      functions_kept = refl;
      switches_kept = refl;
      targets_kept = refl;
      lookups_kept = refl;
      values_kept = refl;
    }

module _ (n : ℕ) (most : n ≤ 64) (ws : List ℕ) (u : Used) (b : Buffers) (word : get_or ws 13 0 < 4294967296) where
  pub refused_early : (why : Refusal) → number_of why ≡ pick (words_ok ws) (pick (used_ok b u) (unfit n ws b.functions) 2) 1 → Attempted n ws u b b (Err why)
  unfolding refusal
  refused_early why e =
      record {
        number_is = at_early (words_ok ws) (used_ok b u) (unfit n ws b.functions) _ (number_of why) (numbered why) e;
        done = tt;
        refused = still_kept u b b.places b.hints b.noted;
      }

  module _ (early : 0 ≡ pick (words_ok ws) (pick (used_ok b u) (unfit n ws b.functions) 2) 1) where
    words_good : words_ok ws ≡ true
    words_good = (passed (words_ok ws) _ 1 (omega arith) early).0

    used_good : used_ok b u ≡ true
    used_good = (passed (used_ok b u) (unfit n ws b.functions) 2 (omega arith) (passed (words_ok ws) _ 1 (omega arith) early).1).0

    unfit_none : unfit n ws b.functions ≡ 0
    unfit_none = sym (passed (used_ok b u) (unfit n ws b.functions) 2 (omega arith) (passed (words_ok ws) _ 1 (omega arith) early).1).1

    pub ready_then : Ready ws
    ready_then = ready_given n most ws b.functions word unfit_none

    -- what is left of the refusals
    refusal_then : refusal n ws b u ≡ pick (slots_ok n ws) (pick (room_ok n ws b u) 0 9) 8
    unfolding refusal
    refusal_then = rw (words_good, used_good, unfit_none)

    uses_then : Uses b u
    uses_then = uses b u used_good

    pub refused_places : {places' hints' noted' : List ℕ} (why : Refusal) → PlacesTried n ws b.places b.hints b.noted places' noted' (Err why)
        → Attempted n ws u b (still b places' hints' noted') (Err why)
    unfolding room_ok
    refused_places {places'} {hints'} {noted'} why t =
        record {
          number_is = at_places (slots_ok n ws) (places_fit ws b.places b.hints b.noted) _ (number_of why) (numbered why) t.number_is ∙ sym refusal_then;
          done = tt;
          refused = still_kept u b places' hints' noted';
        }

    module _ {places' noted' : List ℕ} {p : Placed} (placed : PlacesTried n ws b.places b.hints b.noted places' noted' (Ok p)) where
      slots_good : slots_ok n ws ≡ true
      slots_good = (passed (slots_ok n ws) _ 8 (omega arith) placed.number_is).0

      places_good : places_fit ws b.places b.hints b.noted ≡ true
      places_good = (passed (places_fit ws b.places b.hints b.noted) 0 9 (omega arith) (passed (slots_ok n ws) _ 8 (omega arith) placed.number_is).1).0

      places_long : values ws ≤ length places'
      places_long = omega (arith, ap length placed.given.places_is, length-sets b.places 0 (assigned n ws).map, placed.given.places_there)

      -- what is left of them behind the places
      room_then : refusal n ws b u
          ≡ pick
          (both (entry_ok ws b)
          (both (lists_fit (lists_of b) (new_lists n ws b u)) (leb (length (final_out n ws b u).ops) (op_room b.ops b.spans)))) 0 9
      unfolding room_ok
      room_then = refusal_then ∙ rw (slots_good, places_good)

      pub refused_entry : {hints' : List ℕ} (why : Refusal) → number_of why ≡ pick (entry_ok ws b) 0 9
          → Attempted n ws u b (still b places' hints' noted') (Err why)
      refused_entry {hints'} why e =
          record {
            number_is = at_test (entry_ok ws b) _ (number_of why) (numbered why) e ∙ sym room_then;
            done = tt;
            refused = still_kept u b places' hints' noted';
          }

      module _ (entered : ◌≡◌ {A = ℕ} 0 (pick (entry_ok ws b) 0 9)) where
        entry_good : entry_ok ws b ≡ true
        entry_good = (passed (entry_ok ws b) 0 9 (omega arith) entered).0

        entry_there : function_id ws < length b.functions
        unfolding entry_ok
        entry_there =
            let h = ltb-true (function_id ws) (min (length b.functions) most_of_a_kind) (both-parts (leb (labels_for ws) (length b.labels)) _ entry_good).1 in
            omega arith

        pub lists_ready : ListsReady ws places' u (lists_of b)
        lists_ready = record { ready = ready_then; placed = places_long; started = uses_then.started }

        -- the lists of the places given are those of the definition
        lists_are : lists_after ws (take (values ws) places') (lists_of b) u ≡ new_lists n ws b u
        lists_are = ap (λ (m : List ℕ). lists_after ws m (lists_of b) u) (places_are placed.given)

        module _ {lists' : Lists} where
          pub refused_lists : {hints' : List ℕ} (why : Refusal) → Listed ws places' u (lists_of b) lists' (Err why)
              → Attempted n ws u b (left lists' places' hints' noted' b.ops b.spans b.functions lists'.targets b.labels) (Err why)
          refused_lists why t =
              let k = t.kept in
              record {
                number_is =
                    at_test (lists_fit (lists_of b) (new_lists n ws b u)) (leb (length (final_out n ws b u).ops) (op_room b.ops b.spans)) (number_of why) (numbered why)
                    (t.number_is ∙ ap (λ (x : Lists). pick (lists_fit (lists_of b) x) 0 9) lists_are)
                    ∙ sym (room_then ∙ rw entry_good);
                done = tt;
                refused =
                    record {
                      ops_kept = refl;
                      spans_kept = refl;
                      globals_kept = k.globals_kept;
                      builtins_kept = k.builtins_kept;
                      functions_kept = refl;
                      switches_kept = k.switches_kept;
                      targets_kept = k.targets_kept;
                      lookups_kept = k.lookups_kept;
                      values_kept = k.values_kept;
                    };
              }

          module _ {l : Used} (listed : Listed ws places' u (lists_of b) lists' (Ok l)) where
            lists_good : lists_fit (lists_of b) (new_lists n ws b u) ≡ true
            lists_good = sym (ap (lists_fit (lists_of b)) lists_are) ∙ listed_fits listed

            made_then : Made u (lists_of b) (new_lists n ws b u) l lists'
            made_then = subst (λ (x : Lists). Made u (lists_of b) x l lists') lists_are listed.made

            counted-then : Counted u (new_lists n ws b u) l lists'
            counted-then = counted ws (places_of n ws) u (lists_of b) uses_then.started lists_good made_then

            pub lowerable_then : Lowerable ws
            lowerable_then = lowerable_given n most ws b.functions word unfit_none

            pub places_then : PlacesReady ws places' noted' p
            places_then =
                let g : PlacesGiven n ws b.places places' noted' p = placed.given in
                record {
                  places_there = places_long;
                  noted_there = g.noted_there;
                  places_low = places_low g;
                  slots_few = g.slots_few;
                  top_low = g.top_low;
                }

            pub program_then : ProgramReady ws b.functions b.ops b.spans lists'.globals lists'.builtins u l
            program_then =
                let s = uses_then in
                let i = counted-then in
                record {
                  entry_there = entry_there;
                  ops_room = s.ops_room;
                  switches_few = s.switches_few;
                  lookups_few = s.lookups_few;
                  interned = record {
                    globals_there = i.globals.there;
                    globals_few = i.globals_few;
                    builtins_there = i.builtins.there;
                    builtins_few = i.builtins_few;
                  };
                }

            -- what is put is what the definition says
            out_is : out_of n ws b u places' noted' lists' l p ≡ final_out n ws b u
            unfolding final_out
            out_is =
                let g : PlacesGiven n ws b.places places' noted' p = placed.given in
                let i = counted-then in
                rw (places_are g, g.noted_is, i.globals.taken, i.builtins.taken, g.top_is, g.slots_is)

            ops_then : refusal n ws b u ≡ pick (leb (length (final_out n ws b u).ops) (op_room b.ops b.spans)) 0 9
            ops_then = room_then ∙ rw (entry_good, lists_good)

            module _ {ops'' spans'' labels'' functions'' : List ℕ} where
              pub refused_put : {hints' : List ℕ} (why : Refusal)
                  → Assembled (out_of n ws b u places' noted' lists' l p) u l b.ops b.spans b.functions (functions_after ws b.functions u) ops'' spans'' labels'' functions'' (Err why)
                  → Attempted n ws u b (left lists' places' hints' noted' ops'' spans'' functions'' lists'.targets labels'') (Err why)
              refused_put why t =
                  let k = listed.kept in
                  let q : NotPut u b.ops b.spans b.functions ops'' spans'' functions'' = t.not_put in
                  record {
                    number_is = t.number_is ∙ ap (λ (o : Out). pick (leb (length o.ops) (op_room b.ops b.spans)) 0 9) out_is ∙ sym ops_then;
                    done = tt;
                    refused =
                        record {
                          ops_kept = q.ops_kept;
                          spans_kept = q.spans_kept;
                          globals_kept = k.globals_kept;
                          builtins_kept = k.builtins_kept;
                          functions_kept = q.functions_kept;
                          switches_kept = k.switches_kept;
                          targets_kept = k.targets_kept;
                          lookups_kept = k.lookups_kept;
                          values_kept = k.values_kept;
                        };
                  }

              module _ {f : Used}
                  (put : Assembled (out_of n ws b u places' noted' lists' l p) u l b.ops b.spans b.functions
                  (functions_after ws b.functions u) ops'' spans'' labels'' functions'' (Ok f)) where
                put_then : Put (final_out n ws b u) (functions_after ws b.functions u) l b.ops b.spans ops'' spans'' labels'' functions'' f
                put_then =
                    subst (λ (o : Out). Put o (functions_after ws b.functions u) l b.ops b.spans ops'' spans'' labels'' functions'' f)
                    out_is put.put

                -- as many slots as the lists have
                slots_same : f.targets ≡ l.targets
                slots_same = ap (λ (x : Used). x.targets) put_then.used_is

                slots_end : f.targets ≡ length (new_lists n ws b u).targets
                slots_end = slots_same ∙ ap (λ (x : Used). x.targets) made_then.used_is

                pub targets_then : (u.targets ≤ f.targets) × (f.targets ≤ length lists'.targets) × ((t : ℕ) → get_or labels'' t 0 < 4294967296)
                targets_then =
                    let i = counted-then in
                    (omega (arith, slots_same, i.targets_more), omega (arith, slots_same, i.targets.there), put_then.labels_low)

                module _ {targets'' : List ℕ}
                    (finished : targets''
                    ≡ take u.targets lists'.targets
                    ++ labels_at labels'' (take (f.targets - u.targets) (drop u.targets lists'.targets))
                    ++ drop f.targets lists'.targets) where
                  targets_done : targets'' ≡ sets b.targets 0 (new_targets n ws b u)
                  targets_done =
                      let m = made_then in
                      let t = targets_then in
                      let s : length lists'.targets ≡ length b.targets =
                      ap length m.targets_is ∙ length-sets b.targets 0 (new_lists n ws b u).targets in
                      finished
                      ∙ rw (m.targets_is, put_then.labels_is)
                      (relabelled b.targets (new_lists n ws b u).targets (final_out n ws b u).labels u.targets f.targets slots_end
                      (omega (arith, slots_end, t.0)) (omega (arith, slots_end, t.1, s)))

                  pub attempted : {hints' : List ℕ} → Attempted n ws u b (left lists' places' hints' noted' ops'' spans'' functions'' targets'' labels'') (Ok f)
                  unfolding done_of
                  attempted =
                      let m = made_then in
                      let q = put_then in
                      let g : PlacesGiven n ws b.places places' noted' p = placed.given in
                      record {
                        number_is = put.number_is ∙ ap (λ (o : Out). pick (leb (length o.ops) (op_room b.ops b.spans)) 0 9) out_is ∙ sym ops_then;
                        done =
                            record {
                              used_is = q.used_is
                                  ∙ ap
                                  (λ (x : Used).
                                  record {
                                    ops = length (final_out n ws b u).ops;
                                    globals = x.globals;
                                    builtins = x.builtins;
                                    switches = x.switches;
                                    targets = x.targets;
                                    lookups = x.lookups;
                                    values = x.values;
                                  })
                                  m.used_is;
                              ops_is = q.ops_is;
                              spans_is = q.spans_is;
                              globals_is = m.globals_is;
                              builtins_is = m.builtins_is;
                              functions_is = q.functions_is;
                              switches_is = m.switches_is;
                              targets_is = targets_done;
                              lookups_is = m.lookups_is;
                              values_is = m.values_is;
                              places_is = g.places_is;
                            };
                        refused = tt;
                      }
