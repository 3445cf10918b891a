-- What the loop over the edges ensures, at the block's first edge and count.
use mathlib.Core.Path.{sym, ◌∙◌}
use Rattle.assign.specs.Walk.{walk}
use Rattle.hints.proofs.Hints.{term_steps}
use Rattle.hints.proofs.block_edges.Goals as goal

pub edges_hints-requires : goal.edges_hints-requires
edges_hints-requires c = rw (c.block_field-first.ensures, c.block_field-n.ensures) (c.requires.fits.edges c.args.b c.requires.b_bound.0 c.requires.b_bound.1)

pub returns : goal.returns
returns c = let a = c.args in
    λ s pool k r.
    rw (c.block_field-first.ensures, c.block_field-n.ensures) at (c.edges_hints.ensures s pool k)
    ∙ sym (term_steps a.ws.now pool r (walk s a.map.now a.wish.now k) a.b)
