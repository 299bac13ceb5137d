-- Document 01, "Seats, keys, masks": the keys of all parties on a wire, one after another in one vector of n·K residues, and the wire's mask. A record of a
-- contribution holds such pairs too: those of the wire, and those of its first parts.
-- Assumes nothing.
use Rattle.std.specs.Prelude.{List, ℕ}
use Rattle.residue.specs.Residue.{add, sub, mul}
use Rattle.residue.specs.Vector.{add_v, sub_v, mul_v}

pub record Keyed : Type 0 where
  pub key : List ℕ
  pub mask : ℕ

-- "sums, differences and multiples are taken component by component modulo p"
abbrev pub plus : ℕ → Keyed → Keyed → Keyed
plus p x y = record { key = add_v p x.key y.key; mask = add p x.mask y.mask }

abbrev pub less : ℕ → Keyed → Keyed → Keyed
less p x y = record { key = sub_v p x.key y.key; mask = sub p x.mask y.mask }

abbrev pub times : ℕ → ℕ → Keyed → Keyed
times p c x = record { key = mul_v p c x.key; mask = mul p c x.mask }
