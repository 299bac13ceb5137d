-- The claim at work: the round of specs/Example.antt meets every condition, so under SHAKE256 it decodes 1, 4 and 1. No pad is computed here; that the
-- conditions can be met is.
-- Assumes nothing.
use mathlib.Core.Path.{◌≡◌, refl, sym, ap, ap₂, subst, ◌∙◌}
use mathlib.Core.List.{List, [], ◌∷◌}
use Prim.Native.Nat.{ℕ}
use lib.ListN.{length, length-replicate}
use Rattle.lists.specs.Blocks.{blocks, part, sum_to}
use Rattle.lists.specs.Grown.{extended, grown}
use Rattle.lists.specs.First.{first_from, first}
use Rattle.shake.specs.Numbers.{bytes_of}
use Rattle.residue.specs.Prime.{remainders_below, is_prime}
use Rattle.residue.specs.Residue.{add, mul}
use Rattle.checks.specs.Checked.{unless, none_bad}
use Rattle.checks.proofs.Passed.{and_then_passed}
use Rattle.words.specs.declared.gate.Wire.{Wire}
use Rattle.words.specs.Encode.{file_of}
use Rattle.words.specs.Items.{check, after_entry}
use Rattle.words.specs.Reading.{said, read_word}
use Rattle.circuit.specs.Wires.{modulus_at, inputs_in}
use Rattle.circuit.specs.File.{Read, accepted, ended, after, read_from, headed, read_file}
use Rattle.counts.specs.Moduli.{some_below}
use Rattle.session.specs.Session.{session_checked, owners_checked, values_checked}
use Rattle.scheme.specs.Contribution.{offset_at}
use Rattle.scheme.specs.Bytes.{bytes_checked}
use Rattle.pads.specs.Pad.{shake_pad}
use Rattle.plain.specs.Plain.{plain_by, plain_to, plain_values, plain_outputs}
use Rattle.meter.specs.Meter.{charged, account_checked, meter_checked}
use Rattle.pair.specs.Key.{external_of}
use Rattle.pair.specs.Count.{pair_rows_in}
use Rattle.pair.specs.Draw.{draw_size, draw_moduli, offset_in}
use Rattle.pair.specs.Bytes.{selects_checked, draw_checked, not_one, units_checked}
use Rattle.pair_round.specs.Round.{figures}
use Rattle.pair_round.specs.Claim.{LengthsRight, Conditions, Promise}
use Rattle.pair_round.specs.Example.{file, wires, outputs, named, draw, values, meter, lent}
use Rattle.pair_round.proofs.Claim.{shake_claim}
use Rattle.pair_round.proofs.Demand.{demand}
use Rattle.pair_round.proofs.Possible.{results_of, possible}
use Rattle.checks.specs.Answer.{accepts}

reads : read_file file ≡ accepted wires outputs named
unfolding file file_of bytes_of wires outputs named read_file headed read_from after ended read_word said check after_entry is_prime remainders_below blocks
reads = refl

selects : selects_checked file ≡ accepts
unfolding selects_checked none_bad unless first first_from file file_of bytes_of
selects = refl

session : session_checked 2 2 ≡ accepts
unfolding session_checked unless
session = refl

owners : owners_checked 2 wires ≡ accepts
unfolding owners_checked none_bad unless first first_from wires
owners = refl

size : length draw ≡ draw_size 2 wires
unfolding draw draw_size wires inputs_in sum_to some_below
size = refl

bytes : draw_checked 2 wires draw ≡ accepts
unfolding draw_checked bytes_checked none_bad unless first first_from blocks draw draw_moduli wires inputs_in some_below
bytes = refl

units : units_checked 2 wires draw ≡ accepts
unfolding units_checked not_one none_bad unless first first_from part draw offset_in offset_at external_of wires sum_to some_below
units = refl

values-size : length values ≡ inputs_in wires
unfolding values wires inputs_in
values-size = refl

values_low : values_checked values (modulus_at wires) ≡ accepts
unfolding values_checked none_bad unless first first_from values wires
values_low = refl

lengths : LengthsRight 2 wires outputs lent
unfolding lent
lengths =
    record {
      rows = length-replicate _ 0;
      output_masks = length-replicate _ 0;
      keys = length-replicate _ 0;
      wire_keys = length-replicate _ 0;
      wire_externals = length-replicate _ 0;
      results = length-replicate _ 0;
      plain = length-replicate _ 0;
    }

account : account_checked meter.account ≡ accepts
unfolding account_checked unless meter
account = refl

-- 8 rows for the product, 4 for the projection, 8 for the square
space : meter_checked meter (pair_rows_in wires) ≡ accepts
unfolding meter_checked unless meter wires sum_to
space = refl

wires_read : (read_file file).wires ≡ wires
wires_read = ap (λ (r : Read). r.wires) reads

outputs_read : (read_file file).outputs ≡ outputs
outputs_read = ap (λ (r : Read). r.outputs) reads

-- what holds of the wires holds of those that are read
as_read : (P : List Wire → Type 0) → P wires → P (read_file file).wires
as_read P = subst P (sym wires_read)

pub conditions : Conditions file 2 draw values meter lent
conditions =
    record {
      circuit = and_then_passed (ap (λ (r : Read). r.answer) reads) selects;
      session = session;
      owners = as_read (λ ws. owners_checked 2 ws ≡ accepts) owners;
      draw_length = as_read (λ ws. length draw ≡ draw_size 2 ws) size;
      draw_bytes = as_read (λ ws. draw_checked 2 ws draw ≡ accepts) bytes;
      units = as_read (λ ws. units_checked 2 ws draw ≡ accepts) units;
      values_length = as_read (λ ws. length values ≡ inputs_in ws) values-size;
      values_bytes = as_read (λ ws. values_checked values (modulus_at ws) ≡ accepts) values_low;
      lengths =
          as_read (λ ws. LengthsRight 2 ws (read_file file).outputs lent)
          (subst (λ (outs : List ℕ). LengthsRight 2 wires outs lent) (sym outputs_read) lengths);
      account = account;
      space = as_read (λ ws. meter_checked meter (pair_rows_in ws) ≡ accepts) space;
    }

promise : (round : ℕ) → Promise (shake_pad round) file 2 draw values meter lent
promise round = shake_claim round file 2 draw values meter lent conditions

plain : plain_outputs file wires outputs values ≡ 1 ∷ 4 ∷ 1 ∷ []
unfolding plain_outputs plain_values plain_to plain_by grown extended add mul blocks file file_of bytes_of wires outputs values
plain = refl

pub decodes : (round : ℕ) → figures (shake_pad round) file 2 draw values meter lent ≡ 1 ∷ 4 ∷ 1 ∷ []
decodes round =
    (promise round).delivers.decoded ∙ ap₂ (λ (ws : List Wire) (outs : List ℕ). plain_outputs file ws outs values) wires_read outputs_read ∙ plain

-- the calls can be made: account 3 is then charged those 20 rows, and no other
rows-charged : charged meter (pair_rows_in wires) ≡ 1000 ∷ 0 ∷ 0 ∷ 20 ∷ 0 ∷ 0 ∷ 0 ∷ 0 ∷ []
unfolding meter wires sum_to
rows-charged = refl

pub charges : (round : ℕ) → (results_of file 2 round draw values meter lent).totals ≡ 1000 ∷ 0 ∷ 0 ∷ 20 ∷ 0 ∷ 0 ∷ 0 ∷ 0 ∷ []
charges round =
    (demand file 2 round draw values meter lent (results_of file 2 round draw values meter lent) conditions (possible file 2 round draw values meter lent)).counted
    ∙ ap (λ (ws : List Wire). charged meter (pair_rows_in ws)) wires_read
    ∙ rows-charged
