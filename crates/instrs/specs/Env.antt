-- What lowering reads, by what the code holds of it.
use Rattle.instrs.specs.declared.Seen.{Seen}
use Rattle.instrs.specs.Instrs.{Env, seen}

abbrev pub env_of : Seen → Env
env_of s = seen s.vs.ws.now s.vs.map.now s.noted.now s.functions.now s.globals.now s.builtins.now
