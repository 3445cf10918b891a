-- Block 0's row pins, any other's places.
use mathlib.Core.Path.{◌≡◌, sym, ap, ◌∙◌}
use native.Mathlib.Omega.{arith}
use Rattle.input.specs.Records.{param_count}
use Rattle.assign.specs.Walk.{walk}
use Rattle.assign.proofs.Runs.{params_zero, params_other}
use Rattle.assign.proofs.param_list.Goals as goal

pub pin_list-requires : goal.pin_list-requires
pin_list-requires c = let ws = c.args.r.ws.now in
    let e : c.block_field-n.result ≡ param_count ws 0 = c.block_field-n.ensures ∙ ap (param_count ws) c.if-b-eq0.true in
    record { n_bound = omega (arith, e, c.requires.fits.parameters); good = c.requires.good }

pub returns-then-b-eq0 : goal.returns-then-b-eq0
returns-then-b-eq0 c = let a = c.args in record {
  good_2 = c.pin_list.ensures.good_2;
  by_index = λ m.
      rw (c.block_field-at.ensures, c.block_field-n.ensures) at (c.pin_list.ensures.by_index m)
      ∙ sym (params_zero a.r.ws.now a.r.pool.now a.r.row (walk a.s a.map.now a.r.wish.now m) a.b c.if-b-eq0.true);
}

pub returns : goal.returns
returns c = let a = c.args in record {
  good_2 = c.place_list.ensures.good;
  by_index = λ m.
      rw (c.block_field-at.ensures, c.block_field-n.ensures) at (c.place_list.ensures.by_index m)
      ∙ sym (params_other a.r.ws.now a.r.pool.now a.r.row (walk a.s a.map.now a.r.wish.now m) a.b c.if-b-eq0.false);
}
