use mathlib.Core.Path.{refl, sym, subst, ◌∙◌}
use mathlib.Core.List.{List}
use Prim.Native.Nat.{ℕ, ◌*◌}
use native.Mathlib.Omega.{arith}
use lib.Seq.{length-take-le}
use Rattle.lists.proofs.Wrote.{wrote_front, wrote_take}
use Rattle.contribution.proofs.Sizes.{vector-fits}
use Rattle.zero.specs.Ready.{ZeroKeys}
use Rattle.garbling.proofs.Garbled.{keys_fit, inputs_fit, inputs_are}
use Rattle.garbling.proofs.Sheets.{sheets_hand, sheets_room, sheets_are}
use Rattle.garbling.proofs.pass.garble.Goals as goal

pub overflow_mul-bytes : goal.overflow_mul-bytes
overflow_mul-bytes c = omega (arith, vector-fits c.requires.contributed.sizes)

pub overflow_mul-bytes-2 : goal.overflow_mul-bytes-2
overflow_mul-bytes-2 c = omega (arith, keys_fit c.requires.contributed)

pub put_input_masks-requires : goal.put_input_masks-requires
put_input_masks-requires c = inputs_fit c.requires.contributed c.wire_masks-masks.ensures c.requires.rows_len.1.0

pub put_sheets-requires : goal.put_sheets-requires
put_sheets-requires c = let made = c.wire_masks-masks.ensures in
    (sheets_hand c.requires.contributed made, sheets_room c.requires.contributed made c.requires.rows_len.1.1)

pub returns : goal.returns
returns c = (c.put_rows.ensures, (c.put_input_masks.ensures ∙ inputs_are c.requires.contributed c.wire_masks-masks.ensures c.requires.rows_len.1.0, c.put_sheets.ensures ∙ sheets_are c.requires.contributed c.wire_masks-masks.ensures))

pub slice_bounds-work-end : goal.slice_bounds-work-end
slice_bounds-work-end c = omega (arith, keys_fit c.requires.contributed, c.scratch-work.ensures)

pub slice_bounds-zero_keys-end : goal.slice_bounds-zero_keys-end
slice_bounds-zero_keys-end c = let a = c.args in
    sym (length-take-le (a.circuit.made * (a.session.n * a.session.k)) _ (omega (arith, keys_fit c.requires.contributed, c.scratch-work.ensures)))

pub zero_keys-requires : goal.zero_keys-requires
zero_keys-requires c = let a = c.args in
    record {
      contributed = c.requires.contributed;
      keys_len = length-take-le (a.circuit.made * (a.session.n * a.session.k)) _ (omega (arith, keys_fit c.requires.contributed, c.scratch-work.ensures));
    }

pub slice_bounds-work-end-2 : goal.slice_bounds-work-end-2
slice_bounds-work-end-2 c = let a = c.args in
    let q = wrote_front _ (a.circuit.made * (a.session.n * a.session.k)) {ys = c.zero_keys.new.keys} (omega (arith, keys_fit c.requires.contributed, c.scratch-work.ensures)) c.zero_keys.auto.keys refl in
    omega (arith, q.kept, q.room)

pub slice_bounds-keys-end : goal.slice_bounds-keys-end
slice_bounds-keys-end c = let a = c.args in
    let q = wrote_front _ (a.circuit.made * (a.session.n * a.session.k)) {ys = c.zero_keys.new.keys} (omega (arith, keys_fit c.requires.contributed, c.scratch-work.ensures)) c.zero_keys.auto.keys refl in
    sym (length-take-le (a.circuit.made * (a.session.n * a.session.k)) _ (omega (arith, q.kept, q.room)))

pub put_rows-requires : goal.put_rows-requires
put_rows-requires c = let a = c.args in
    let q = wrote_front _ (a.circuit.made * (a.session.n * a.session.k)) {ys = c.zero_keys.new.keys} (omega (arith, keys_fit c.requires.contributed, c.scratch-work.ensures)) c.zero_keys.auto.keys refl in
    record {
      contributed = c.requires.contributed;
      zero_keys = (subst (λ (l : List ℕ). ZeroKeys a.circuit a.session.n a.session.k a.contributions.now l) (sym (wrote_take q)) c.zero_keys.ensures, c.wire_masks-masks.ensures);
      rows_len = c.requires.rows_len.0;
    }
