-- What a word that is not refused has been through: each thing that one word can do, with the checks that it passed. A proof about
-- every word goes by these cases instead of by the checks of the definition.
-- Assumes nothing.
use mathlib.Core.Path.{◌≡◌, refl}
use mathlib.Core.Bool.{Bool, true, false, ◌&&◌}
use mathlib.Core.List.{List}
use Prim.Native.Nat.{ℕ, zero, suc, ◌+◌, ◌<◌}
use lib.Dec.{ltb}
use lib.ListN.{length, get_or}
use borrow.Author.Tests.{ltb-true, eqb-true}
use Rattle.residue.specs.Prime.{is_prime}
use Rattle.residue.proofs.Table.{and_left, and_right}
use Rattle.checks.specs.declared.Refusal.{Refusal}
use Rattle.words.specs.Bits.{kind, owner, input_modulus, wire_a, wire_b, one_wire, constant, output_modulus, image}
use Rattle.words.specs.Items.{check, judged, input_due, gate_due, output_due, after_entry, wire_of, pair_of, entry_item, branches_item}
use Rattle.words.specs.Reading.{said, does, read_word}
use Rattle.words.proofs.Judged.{Room, Two, room, two}
use Rattle.words.specs.declared.gate.Gate.TheVariants.{Input, Add, Scale, Multiply, Project, Select}
use Rattle.words.specs.declared.item.Item.{Item}
use Rattle.words.specs.declared.gate.Due.{Due}
use Rattle.words.specs.declared.gate.Due.TheVariants.{Inputs, Gates, Outputs, Entries, Branches}
use Rattle.words.specs.declared.gate.Step.{Step}
use Rattle.words.specs.declared.gate.Step.TheVariants.{Refused, Makes, Goes, Gives, Ends}

pub data Did (moduli : List ℕ) (given at : ℕ) (due : Due) (w : ℕ) : Step → Type 0 where
  refused : {reason : Refusal} → Did moduli given at due w (Refused reason)
  input :
      Room (input_due due) (length moduli)
      → is_prime (input_modulus w) ≡ true
      → owner w < 8
      → Did moduli given at due w (Makes (wire_of (Input (record { owner = owner w })) (input_modulus w)) Inputs)
  add :
      Room (gate_due due) (length moduli)
      → Two moduli (wire_a w) (wire_b w)
      → Did moduli given at due w (Makes (wire_of (Add (pair_of (wire_a w) (wire_b w))) (get_or moduli (wire_a w) 0)) Gates)
  multiply :
      Room (gate_due due) (length moduli)
      → Two moduli (wire_a w) (wire_b w)
      → Did moduli given at due w (Makes (wire_of (Multiply (pair_of (wire_a w) (wire_b w))) (get_or moduli (wire_a w) 0)) Gates)
  scale :
      Room (gate_due due) (length moduli)
      → one_wire w < length moduli
      → 0 < constant w
      → constant w < get_or moduli (one_wire w) 0
      → Did moduli given at due w (Makes (wire_of (Scale (record { constant = constant w; a = one_wire w })) (get_or moduli (one_wire w) 0)) Gates)
  project :
      Room (gate_due due) (length moduli)
      → is_prime (output_modulus w) ≡ true
      → one_wire w < length moduli
      → Did moduli given at due w
      (Makes (wire_of (Project (record { a = one_wire w; table = at + 1 })) (output_modulus w)) (Entries (get_or moduli (one_wire w) 0) (output_modulus w)))
  entry :
      {left modulus : ℕ}
      → due ≡ Entries left modulus
      → kind w ≡ 7
      → image w < modulus
      → Did moduli given at due w (Goes (after_entry left modulus))
  select :
      Room (gate_due due) (length moduli)
      → one_wire w < length moduli
      → get_or moduli (one_wire w) 0 ≡ 2
      → Did moduli given at due w (Goes (Branches (one_wire w)))
  branches :
      {bit : ℕ}
      → due ≡ Branches bit
      → Two moduli (wire_a w) (wire_b w)
      → Did moduli given at due w (Makes (wire_of (Select (record { bit = bit; a = wire_a w; b = wire_b w })) (get_or moduli (wire_a w) 0)) Gates)
  output :
      output_due due ≡ true
      → one_wire w < length moduli
      → given < 256
      → Did moduli given at due w (Gives (one_wire w))
  end : output_due due ≡ true → 0 < given → Did moduli given at due w Ends

module _ {moduli : List ℕ} {given at : ℕ} {due : Due} {w : ℕ} where
  checked : {next : Step} (b : Bool) (reason : Refusal) → (b ≡ true → Did moduli given at due w next) → Did moduli given at due w (check b reason next)
  unfolding check
  checked true reason f = f refl
  checked false reason f = refused

  -- the bits that must be zero are zero, or nothing is said
  whether : (b : Bool) (item : Item) → (b ≡ true → Did moduli given at due w (judged moduli given at due item)) → Did moduli given at due w (does moduli given at due (said b item))
  unfolding said
  whether true item f = f refl
  whether false item f = refused

positive : (c p : ℕ) → (ltb 0 c && ltb c p) ≡ true → 0 < c
positive c p e = ltb-true 0 c (and_left (ltb 0 c) (ltb c p) e)

below : (c p : ℕ) → (ltb 0 c && ltb c p) ≡ true → c < p
below c p e = ltb-true c p (and_right (ltb 0 c) (ltb c p) e)

-- an entry and a branches word go by what is due
entry_where :
    (moduli : List ℕ) (given at : ℕ) (due other : Due) (w : ℕ) → kind w ≡ 7 → due ≡ other → Did moduli given at due w (entry_item other (image w))
entry_where moduli given at due Inputs w k e = refused
entry_where moduli given at due Gates w k e = refused
entry_where moduli given at due Outputs w k e = refused
entry_where moduli given at due (Entries left modulus) w k e = checked _ _ λ fits. entry e k (ltb-true _ _ fits)
entry_where moduli given at due (Branches bit) w k e = refused

branches_where : (moduli : List ℕ) (given at : ℕ) (due other : Due) (w : ℕ) → due ≡ other → Did moduli given at due w (branches_item moduli other (wire_a w) (wire_b w))
branches_where moduli given at due Inputs w e = refused
branches_where moduli given at due Gates w e = refused
branches_where moduli given at due Outputs w e = refused
branches_where moduli given at due (Entries left modulus) w e = refused
branches_where moduli given at due (Branches bit) w e = checked _ _ λ made. checked _ _ λ same. branches e (two moduli _ _ made same)

by-kind : (moduli : List ℕ) (given at : ℕ) (due : Due) (w k : ℕ) → kind w ≡ k → Did moduli given at due w (read_word moduli given at due w)
unfolding read_word
by-kind moduli given at due w zero e = rw e refused
-- head
by-kind moduli given at due w (suc zero) e =
    rw e
    (whether _ _ λ clean. refused)
-- input
by-kind moduli given at due w (suc (suc zero)) e =
    rw e
    (whether _ _ λ clean. checked _ _ λ here. checked _ _ λ prime. checked _ _ λ owner. checked _ _ λ space.
    input (room _ _ here space) (and_right (ltb (input_modulus w) 256) _ prime) (ltb-true _ _ owner))
-- add
by-kind moduli given at due w (suc (suc (suc zero))) e =
    rw e
    (whether _ _ λ clean. checked _ _ λ here. checked _ _ λ made. checked _ _ λ same. checked _ _ λ space.
    add (room _ _ here space) (two moduli _ _ made same))
-- scale
by-kind moduli given at due w (suc (suc (suc (suc zero)))) e =
    rw e
    (whether _ _ λ clean. checked _ _ λ here. checked _ _ λ made. checked _ _ λ range. checked _ _ λ space.
    scale (room _ _ here space) (ltb-true _ _ made) (positive _ _ range) (below _ _ range))
-- multiply
by-kind moduli given at due w (suc (suc (suc (suc (suc zero))))) e =
    rw e
    (whether _ _ λ clean. checked _ _ λ here. checked _ _ λ made. checked _ _ λ same. checked _ _ λ space.
    multiply (room _ _ here space) (two moduli _ _ made same))
-- project
by-kind moduli given at due w (suc (suc (suc (suc (suc (suc zero)))))) e =
    rw e
    (whether _ _ λ clean. checked _ _ λ here. checked _ _ λ prime. checked _ _ λ made. checked _ _ λ space.
    project (room _ _ here space) (and_right (ltb (output_modulus w) 256) _ prime) (ltb-true _ _ made))
-- entry
by-kind moduli given at due w (suc (suc (suc (suc (suc (suc (suc zero))))))) e =
    rw e
    (whether _ _ λ clean. entry_where moduli given at due due w e refl)
-- select
by-kind moduli given at due w (suc (suc (suc (suc (suc (suc (suc (suc zero)))))))) e =
    rw e
    (whether _ _ λ clean. checked _ _ λ here. checked _ _ λ made. checked _ _ λ bit. checked _ _ λ space.
    select (room _ _ here space) (ltb-true _ _ made) (eqb-true _ _ bit))
-- branches
by-kind moduli given at due w (suc (suc (suc (suc (suc (suc (suc (suc (suc zero))))))))) e =
    rw e
    (whether _ _ λ clean. branches_where moduli given at due due w refl)
-- output
by-kind moduli given at due w (suc (suc (suc (suc (suc (suc (suc (suc (suc (suc zero)))))))))) e =
    rw e
    (whether _ _ λ clean. checked _ _ λ here. checked _ _ λ made. checked _ _ λ space. output here (ltb-true _ _ made) (ltb-true _ _ space))
-- end
by-kind moduli given at due w (suc (suc (suc (suc (suc (suc (suc (suc (suc (suc (suc zero))))))))))) e =
    rw e
    (whether _ _ λ clean. checked _ _ λ here. checked _ _ λ some. end here (ltb-true _ _ some))
-- no kind
by-kind moduli given at due w (suc (suc (suc (suc (suc (suc (suc (suc (suc (suc (suc (suc k)))))))))))) e = rw e refused

pub did : (moduli : List ℕ) (given at : ℕ) (due : Due) (w : ℕ) → Did moduli given at due w (read_word moduli given at due w)
did moduli given at due w = by-kind moduli given at due w (kind w) refl
