-- The law of a fresh pen, with room for the words of any list.
use Rattle.std.proofs.Common.{[]}
use Rattle.place.specs.Registers.{registers}
use Rattle.moves_entry.proofs.Words.{words_fit, fresh}
use Rattle.moves_entry.proofs.words_of.Goals as goal

pub returns : goal.returns
returns c =
    let w = c.put_moves-q in
    fresh _ c.args.span c.args.words.now c.args.marks.now w.new.ops w.new.spans w.result (words_fit registers c.args.c c.requires.0) c.requires.1 c.requires.2 (w.ensures [])
