-- `row_calls::garble` meets its contract: accepted, what was written and charged; refused, nothing. Assumes nothing.
use Rattle.meter.specs.Meter.{Charge}
use Rattle.session.proofs.Circuits.{held_of}
use Rattle.checks.proofs.Answers.{passed_on}
use Rattle.row_calls.proofs.Garbles.{garble_unread, garble-refused, garble_full, garble-most, garble_contributed, garble-room, garble-account, garble-space, garble-written}
use Rattle.row_calls.proofs.garbled.garble.Goals as goal

pub returns-in_err-circuit : goal.returns-in_err-circuit
returns-in_err-circuit c = garble_unread _ _ _ _ _ _ _ _ (passed_on c.from_residual.ensures.1) c.in_err-circuit.ensures.err

pub garble_asked-requires : goal.garble_asked-requires
garble_asked-requires c = held_of c.in_ok-circuit.ensures.ok

pub returns-in_err-garble_asked : goal.returns-in_err-garble_asked
returns-in_err-garble_asked c = garble-refused _ _ _ _ _ _ _ _ c.in_ok-circuit.ensures.ok c.garble_asked.ensures (passed_on c.from_residual-in_err-garble_asked.ensures.1) c.in_err-garble_asked.was

pub rows-count-requires : goal.rows-count-requires
rows-count-requires c = (held_of c.in_ok-circuit.ensures.ok).room

pub returns-in_err-meter_checked : goal.returns-in_err-meter_checked
returns-in_err-meter_checked c =
    garble_full _ _ _ _ _ _ _ _ c.in_ok-circuit.ensures.ok c.garble_asked.ensures c.in_ok-garble_asked.was c.rows-count.ensures c.meter_checked.ensures
    (passed_on c.from_residual-in_err-meter_checked.ensures.1) c.in_err-meter_checked.was

pub contribution_size-size-requires : goal.contribution_size-size-requires
contribution_size-size-requires c =
    let m : Charge = record { totals = c.args.meter.now; account = c.args.account } in
    rw c.from-session.ensures
    ((held_of c.in_ok-circuit.ensures.ok).room, garble-most _ _ _ _ _ _ _ m c.in_ok-circuit.ensures.ok c.garble_asked.ensures c.in_ok-garble_asked.was)

pub garble-requires : goal.garble-requires
garble-requires c =
    let m : Charge = record { totals = c.args.meter.now; account = c.args.account } in
    rw c.from-session.ensures
    (record {
      contributed =
          garble_contributed _ _ _ _ _ _ _ m c.in_ok-circuit.ensures.ok c.garble_asked.ensures c.in_ok-garble_asked.was
          (rw c.from-session.ensures at c.contribution_size-size.ensures);
      rows_len = garble-room _ _ _ _ _ _ _ m c.in_ok-circuit.ensures.ok c.garble_asked.ensures c.in_ok-garble_asked.was;
    })

pub charge-requires : goal.charge-requires
charge-requires c =
    let m : Charge = record { totals = c.args.meter.now; account = c.args.account } in (
      garble-account _ _ _ _ _ _ _ m c.in_ok-circuit.ensures.ok c.garble_asked.ensures c.in_ok-garble_asked.was,
      garble-space _ _ _ _ _ _ _ m c.in_ok-circuit.ensures.ok c.garble_asked.ensures c.in_ok-garble_asked.was c.rows-count.ensures c.meter_checked.ensures c.in_ok-meter_checked.was,
    )

pub returns : goal.returns
returns c =
    garble-written _ _ _ _ _ _ _ _ c.in_ok-circuit.ensures.ok c.garble_asked.ensures c.in_ok-garble_asked.was c.rows-count.ensures c.meter_checked.ensures c.in_ok-meter_checked.was
    (rw c.from-session.ensures at c.garble.ensures) c.charge.ensures
