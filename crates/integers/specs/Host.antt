-- Document 02, order 5, as a host in C sees it: over what the calls promise of all that is lent to them.
-- Assumes nothing.
use Rattle.std.specs.Prelude.{◌≡◌, List, ℕ, ◌+◌, ◌*◌, ◌%◌, ◌≤◌, ◌<◌, length, take}
use Rattle.lists.specs.Blocks.{part}
use Rattle.meter.specs.Meter.{Charge}
use Rattle.circuit.specs.Wires.{inputs_in}
use Rattle.circuit.specs.File.{read_file}
use Rattle.bundles.specs.declared.operation.Operation.{Operation}
use Rattle.bundles.specs.Primes.{product}
use Rattle.bundles.specs.Call.{SplitCall, JoinCall, PartCall}
use Rattle.round.specs.Round.{Lent}
use Rattle.round.specs.Claim.{Conditions}
use Rattle.round.specs.Played.{Results, Played}
use Rattle.integers.specs.Reach.{Has}
use Rattle.integers.specs.Bundle.{Bundle, Carries, Carried, result}
use Rattle.integers.specs.Promise.{Shown, MayReadAll}
use Rattle.checks.specs.Answer.{accepts}

-- splitting has accepted an integer, and its residues are the values of a bundle of inputs: the bundle carries the integer
abbrev pub SplitIsCarried : Type 0
SplitIsCarried =
    (file values residues₀ residues : List ℕ) (r first x place : ℕ)
    → (read_file file).answer ≡ accepts
    → Bundle (read_file file).wires r first
    → first + r ≤ inputs_in (read_file file).wires
    → SplitCall r x residues₀ 0 place residues
    → part values first r ≡ residues
    → Carries file values r first x

-- joining accepts, and gives this integer
pub record JoinedTo (integer number given : ℕ) : Type 0 where
  pub accepted : number ≡ 0
  pub is : given ≡ integer

-- splitting accepts, and gives these residues
pub record SplitTo (residues : List ℕ) (number : ℕ) (given : List ℕ) : Type 0 where
  pub accepted : number ≡ 0
  pub is : given ≡ residues

-- what splitting has accepted and given, joining accepts and gives back, and the other way round
abbrev pub SplitThenJoined : Type 0
SplitThenJoined =
    (residues₀ residues : List ℕ) (r x place integer₀ number place' integer : ℕ)
    → SplitCall r x residues₀ 0 place residues
    → JoinCall r residues integer₀ number place' integer
    → JoinedTo x number integer

abbrev pub JoinedThenSplit : Type 0
JoinedThenSplit =
    (residues residues₀ given : List ℕ) (r integer₀ integer place number place' : ℕ)
    → JoinCall r residues integer₀ 0 place integer
    → length residues₀ ≡ r
    → SplitCall r integer residues₀ number place' given
    → SplitTo residues number given

-- Outputs show a bundle that carries an integer, and a round of the file's circuit is played under demand 3's conditions. Then joining, lent the decoded
-- bytes of any party that may read them, accepts them, and gives the integer modulo the product.
abbrev pub JoinedIsCarried : Type 0
JoinedIsCarried =
    (file : List ℕ) (n K round : ℕ) (contributions values : List ℕ) (meter : Charge) (lent : Lent) (results : Results)
    (r first z at party integer₀ number place integer : ℕ)
    → Conditions file n K contributions values meter lent
    → Played file n K round contributions values meter lent results
    → 2 ≤ r
    → r ≤ 10
    → Carries file values r first z
    → Shown (read_file file).outputs at r first
    → party < n
    → MayReadAll (read_file file).named party at r
    → JoinCall r (part (results.decoded party) at r) integer₀ number place integer
    → JoinedTo (z % product r) number integer

-- So it is with a part. A call has written a part, its bytes stand in the file where its first wire is the next to be made, its bundles carry x and y, and outputs show the bundle
-- that it makes. A round of the file's circuit is played under demand 3's conditions. Then joining, lent the decoded bytes of any party that may read them, accepts them, and gives the
-- result modulo the product.
abbrev pub JoinedIsResult : Type 0
JoinedIsResult =
    (file : List ℕ) (n K round : ℕ) (contributions values : List ℕ) (meter : Charge) (lent : Lent) (results : Results)
    (operation : Operation) (r first a x y at party : ℕ)
    (buffer₀ buffer : List ℕ) (words₀ words place integer₀ number place' integer : ℕ)
    → Conditions file n K contributions values meter lent
    → Played file n K round contributions values meter lent results
    → PartCall operation r first a buffer₀ words₀ 0 place buffer words
    → Has file first (take (4 * words) buffer)
    → Carried file values r a x y operation
    → Shown (read_file file).outputs at r first
    → party < n
    → MayReadAll (read_file file).named party at r
    → JoinCall r (part (results.decoded party) at r) integer₀ number place' integer
    → JoinedTo (result operation x y % product r) number integer
