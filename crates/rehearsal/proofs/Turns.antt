-- The loops in which each party makes its call: what stands after so many parties, and one party more.
-- Assumes nothing.
use mathlib.Core.Path.{◌≡◌, refl, sym, ap, ap₂, subst, ◌∙◌}
use mathlib.Core.List.{List}
use Prim.Native.Nat.{ℕ, ◌+◌, ◌-◌, ◌*◌, ◌≤◌, ◌<◌}
use native.Mathlib.Omega.{arith}
use lib.ListN.{length, take, drop}
use Rattle.lists.specs.Blocks.{part, nth_piece}
use Rattle.lists.proofs.Sums.{times-next}
use Rattle.lists.proofs.Written.{lent}
use Rattle.lists.proofs.Steps.{Level, level_start, steps_long, steps_call}
use Rattle.checks.specs.Checked.{Reports}
use Rattle.pads.specs.Pad.{shake_pad}
use Rattle.calls.specs.InputKeys.{input_keys_checked, input_keys_after, InputKeysCall}
use Rattle.calls.specs.Open.{open_checked, open_keys, open_externals, OpenCall}
use Rattle.calls.specs.Decode.{decode_checked, decode_after, DecodeCall}
use Rattle.round.specs.Played.{Answered}
use Rattle.rehearsal.specs.Turns.{KeysOfAll, OpenedByAll, DecodedByAll}
use Rattle.rehearsal.proofs.InTurn.{turn_start, turn-next, part-next, read_next, parts_all}
use Rattle.checks.specs.Answer.{Answer}

-- a part of what is only read, by its place
own-part : (xs : List ℕ) {ys : List ℕ} {from : ℕ} (s i : ℕ) → ys ≡ part xs from s → from ≡ i * s → ys ≡ nth_piece xs s i
own-part xs {ys} {from} s i e k = e ∙ ap (λ (at : ℕ). part xs at s) k

-- an answer to a party's checks, under another name for them
abbrev Told : (ℕ → Answer) → ℕ → Type 0
Told checks j = Answered (Reports (checks j))

told_as : (checks : ℕ → Answer) (i : ℕ) {check : Answer} {number place : ℕ} → check ≡ checks i → Reports check number place → Told checks i
told_as checks i {check} {number} {place} e m = record { number = number; place = place; holds = subst (λ (c : Answer). Reports c number place) e m }

-- ---- input keys

module _ (file : List ℕ) (n K : ℕ) (contributions : List ℕ) (size : ℕ) (externals : List ℕ) (each : ℕ) (mine₀ : List ℕ) where
  abbrev pub keys_checks : ℕ → Answer
  keys_checks party = input_keys_checked file n K party (nth_piece contributions size party) externals (nth_piece mine₀ each party)

  abbrev pub keys_written : ℕ → List ℕ
  keys_written party = input_keys_after file n K party (nth_piece contributions size party) externals (nth_piece mine₀ each party)

  pub record KeysTo (party from at : ℕ) (mine : List ℕ) : Type 0 where
    pub place : from ≡ party * size
    pub level : Level mine₀ 0 party n each keys_written at mine
    pub sized : (j : ℕ) → j < party → length (keys_written j) ≡ each
    pub met : (j : ℕ) → j < party → Told keys_checks j

module _ {file : List ℕ} {n K : ℕ} {contributions : List ℕ} {size : ℕ} {externals : List ℕ} {each : ℕ} {mine₀ : List ℕ} where
  pub keys_start : length mine₀ ≡ n * each → KeysTo file n K contributions size externals each mine₀ 0 0 0 mine₀
  keys_start l =
      record {
        place = omega arith;
        level = level_start (omega arith);
        sized = λ j h. absurd (omega arith);
        met = turn_start (Told (keys_checks file n K contributions size externals each mine₀));
      }

  module _ {party from at : ℕ} {mine : List ℕ} (r : KeysTo file n K contributions size externals each mine₀ party from at mine) (h : party < n) where
    pub keys-reads : length contributions ≡ n * size → from + size ≤ length contributions
    keys-reads l = read_next contributions n size party from l r.place h

    pub keys-next : {own ys : List ℕ} {number place : ℕ} → own ≡ part contributions from size
        → length ys ≡ length (take (at + each - at) (drop at mine))
        → InputKeysCall file n K party own externals (take (at + each - at) (drop at mine)) number place ys
        → KeysTo file n K contributions size externals each mine₀ (party + 1) (from + size) (at + each) (lent at (at + each) mine ys)
    keys-next {own} {ys} o l d =
        let o' : own ≡ nth_piece contributions size party = own-part contributions size party o r.place in
        let p : take (at + each - at) (drop at mine) ≡ nth_piece mine₀ each party = part-next r.level refl in
        let z : ys ≡ keys_written file n K contributions size externals each mine₀ party =
        d.keys_is ∙ ap₂ (λ (a b : List ℕ). input_keys_after file n K party a externals b) o' p in
        record {
          place = omega (arith, r.place, times-next party size);
          level = steps_call r.level h refl l z;
          sized =
              turn-next (λ j. length (keys_written file n K contributions size externals each mine₀ j) ≡ each) party r.sized
              (sym (ap length z) ∙ l ∙ steps_long r.level h refl);
          met =
              turn-next (Told (keys_checks file n K contributions size externals each mine₀)) party r.met
              (told_as (keys_checks file n K contributions size externals each mine₀) party
              (ap₂ (λ (a b : List ℕ). input_keys_checked file n K party a externals b) o' p) d.answer);
        }

  pub keys-all : {party from at : ℕ} {mine : List ℕ} → KeysTo file n K contributions size externals each mine₀ party from at mine → n ≤ party
      → KeysOfAll file n K contributions size externals each mine₀ mine
  keys-all r h =
      record {
        calls =
            λ j b.
            let m = r.met j (omega arith) in
            record { number = m.number; place = m.place; holds = record { answer = m.holds; keys_is = parts_all r.level h r.sized j b } };
      }

-- ---- opening

module _ (file : List ℕ) (n K round : ℕ) (contributions : List ℕ) (size : ℕ) (externals keys rows : List ℕ) (wide : ℕ) (wkeys₀ : List ℕ) (long : ℕ) (wexts₀ : List ℕ) where
  abbrev pub open_checks : ℕ → Answer
  open_checks party = open_checked (shake_pad round) file n K party (nth_piece contributions size party) externals keys rows (nth_piece wkeys₀ wide party) (nth_piece wexts₀ long party)

  abbrev pub opened_keys : ℕ → List ℕ
  opened_keys party = open_keys (shake_pad round) file n K party (nth_piece contributions size party) externals keys rows (nth_piece wkeys₀ wide party) (nth_piece wexts₀ long party)

  abbrev pub opened_externals : ℕ → List ℕ
  opened_externals party =
      open_externals (shake_pad round) file n K party (nth_piece contributions size party) externals keys rows (nth_piece wkeys₀ wide party) (nth_piece wexts₀ long party)

  pub record OpenTo (party from at place : ℕ) (wkeys wexts : List ℕ) : Type 0 where
    pub start : from ≡ party * size
    pub keys_level : Level wkeys₀ 0 party n wide opened_keys at wkeys
    pub exts_level : Level wexts₀ 0 party n long opened_externals place wexts
    pub keys_sized : (j : ℕ) → j < party → length (opened_keys j) ≡ wide
    pub exts_sized : (j : ℕ) → j < party → length (opened_externals j) ≡ long
    pub met : (j : ℕ) → j < party → Told open_checks j

module _ {file : List ℕ} {n K round : ℕ} {contributions : List ℕ} {size : ℕ} {externals keys rows : List ℕ} {wide : ℕ} {wkeys₀ : List ℕ} {long : ℕ} {wexts₀ : List ℕ} where
  pub open_start : length wkeys₀ ≡ n * wide → length wexts₀ ≡ n * long
      → OpenTo file n K round contributions size externals keys rows wide wkeys₀ long wexts₀ 0 0 0 0 wkeys₀ wexts₀
  open_start l k =
      record {
        start = omega arith;
        keys_level = level_start (omega arith);
        exts_level = level_start (omega arith);
        keys_sized = λ j h. absurd (omega arith);
        exts_sized = λ j h. absurd (omega arith);
        met = turn_start (Told (open_checks file n K round contributions size externals keys rows wide wkeys₀ long wexts₀));
      }

  module _ {party from at place : ℕ} {wkeys wexts : List ℕ}
      (r : OpenTo file n K round contributions size externals keys rows wide wkeys₀ long wexts₀ party from at place wkeys wexts) (h : party < n) where
    abbrev keys_part : List ℕ
    keys_part = take (at + wide - at) (drop at wkeys)

    abbrev exts_part : List ℕ
    exts_part = take (place + long - place) (drop place wexts)

    pub open_reads : length contributions ≡ n * size → from + size ≤ length contributions
    open_reads l = read_next contributions n size party from l r.start h

    pub open_next : {own ys zs : List ℕ} {number where' : ℕ} → own ≡ part contributions from size
        → length ys ≡ length keys_part → length zs ≡ length exts_part
        → OpenCall file n K party round own externals keys rows keys_part exts_part number where' ys zs
        → OpenTo file n K round contributions size externals keys rows wide wkeys₀ long wexts₀ (party + 1) (from + size) (at + wide) (place + long)
        (lent at (at + wide) wkeys ys) (lent place (place + long) wexts zs)
    open_next {own} {ys} {zs} o ly lz d =
        let o' : own ≡ nth_piece contributions size party = own-part contributions size party o r.start in
        let p : keys_part ≡ nth_piece wkeys₀ wide party = part-next r.keys_level refl in
        let q : exts_part ≡ nth_piece wexts₀ long party = part-next r.exts_level refl in
        let y : ys ≡ opened_keys file n K round contributions size externals keys rows wide wkeys₀ long wexts₀ party =
        d.wire_keys_is ∙ ap (λ (a : List ℕ). open_keys (shake_pad round) file n K party a externals keys rows keys_part exts_part) o'
        ∙ ap₂ (λ (a b : List ℕ). open_keys (shake_pad round) file n K party (nth_piece contributions size party) externals keys rows a b) p q in
        let z : zs ≡ opened_externals file n K round contributions size externals keys rows wide wkeys₀ long wexts₀ party =
        d.wire_externals_is ∙ ap (λ (a : List ℕ). open_externals (shake_pad round) file n K party a externals keys rows keys_part exts_part) o'
        ∙ ap₂ (λ (a b : List ℕ). open_externals (shake_pad round) file n K party (nth_piece contributions size party) externals keys rows a b) p q in
        record {
          start = omega (arith, r.start, times-next party size);
          keys_level = steps_call r.keys_level h refl ly y;
          exts_level = steps_call r.exts_level h refl lz z;
          keys_sized =
              turn-next (λ j. length (opened_keys file n K round contributions size externals keys rows wide wkeys₀ long wexts₀ j) ≡ wide) party r.keys_sized
              (sym (ap length y) ∙ ly ∙ steps_long r.keys_level h refl);
          exts_sized =
              turn-next (λ j. length (opened_externals file n K round contributions size externals keys rows wide wkeys₀ long wexts₀ j) ≡ long) party r.exts_sized
              (sym (ap length z) ∙ lz ∙ steps_long r.exts_level h refl);
          met =
              turn-next (Told (open_checks file n K round contributions size externals keys rows wide wkeys₀ long wexts₀)) party r.met
              (told_as (open_checks file n K round contributions size externals keys rows wide wkeys₀ long wexts₀) party
              (ap (λ (a : List ℕ). open_checked (shake_pad round) file n K party a externals keys rows keys_part exts_part) o'
              ∙ ap₂ (λ (a b : List ℕ). open_checked (shake_pad round) file n K party (nth_piece contributions size party) externals keys rows a b) p q)
              d.answer);
        }

  pub open_all : {party from at place : ℕ} {wkeys wexts : List ℕ}
      → OpenTo file n K round contributions size externals keys rows wide wkeys₀ long wexts₀ party from at place wkeys wexts → n ≤ party
      → OpenedByAll file n K round contributions size externals keys rows wide wkeys₀ long wexts₀ wkeys wexts
  open_all r h =
      record {
        calls =
            λ j b.
            let m = r.met j (omega arith) in
            record {
              number = m.number;
              place = m.place;
              holds = record {
                answer = m.holds;
                wire_keys_is = parts_all r.keys_level h r.keys_sized j b;
                wire_externals_is = parts_all r.exts_level h r.exts_sized j b;
              };
            };
      }

-- ---- decoding

module _ (file : List ℕ) (n : ℕ) (externals : List ℕ) (long : ℕ) (masks : List ℕ) (each : ℕ) (results₀ : List ℕ) where
  abbrev pub decode_checks : ℕ → Answer
  decode_checks party = decode_checked file n party (nth_piece externals long party) (nth_piece masks each party) (nth_piece results₀ each party)

  abbrev pub decoded_bytes : ℕ → List ℕ
  decoded_bytes party = decode_after file n party (nth_piece externals long party) (nth_piece masks each party) (nth_piece results₀ each party)

  pub record DecodeTo (party from at : ℕ) (results : List ℕ) : Type 0 where
    pub place : from ≡ party * long
    pub sheet : at ≡ party * each
    pub level : Level results₀ 0 party n each decoded_bytes at results
    pub sized : (j : ℕ) → j < party → length (decoded_bytes j) ≡ each
    pub met : (j : ℕ) → j < party → Told decode_checks j

module _ {file : List ℕ} {n : ℕ} {externals : List ℕ} {long : ℕ} {masks : List ℕ} {each : ℕ} {results₀ : List ℕ} where
  pub decode_start : length results₀ ≡ n * each → DecodeTo file n externals long masks each results₀ 0 0 0 results₀
  decode_start l =
      record {
        place = omega arith;
        sheet = omega arith;
        level = level_start (omega arith);
        sized = λ j h. absurd (omega arith);
        met = turn_start (Told (decode_checks file n externals long masks each results₀));
      }

  module _ {party from at : ℕ} {results : List ℕ} (r : DecodeTo file n externals long masks each results₀ party from at results) (h : party < n) where
    pub decode-reads : length externals ≡ n * long → from + long ≤ length externals
    decode-reads l = read_next externals n long party from l r.place h

    pub sheet-reads : length masks ≡ n * each → at + each ≤ length masks
    sheet-reads l = read_next masks n each party at l r.sheet h

    pub decode-next : {own sheet ys : List ℕ} {number place : ℕ} → own ≡ part externals from long
        → sheet ≡ part masks at each
        → length ys ≡ length (take (at + each - at) (drop at results))
        → DecodeCall file n party own sheet (take (at + each - at) (drop at results)) number place ys
        → DecodeTo file n externals long masks each results₀ (party + 1) (from + long) (at + each) (lent at (at + each) results ys)
    decode-next {own} {sheet} {ys} o m l d =
        let o' : own ≡ nth_piece externals long party = own-part externals long party o r.place in
        let m' : sheet ≡ nth_piece masks each party = own-part masks each party m r.sheet in
        let p : take (at + each - at) (drop at results) ≡ nth_piece results₀ each party = part-next r.level refl in
        let z : ys ≡ decoded_bytes file n externals long masks each results₀ party =
        d.results_is ∙ ap₂ (λ (a b : List ℕ). decode_after file n party a sheet b) o' p
        ∙ ap (λ (s : List ℕ). decode_after file n party (nth_piece externals long party) s (nth_piece results₀ each party)) m' in
        record {
          place = omega (arith, r.place, times-next party long);
          sheet = omega (arith, r.sheet, times-next party each);
          level = steps_call r.level h refl l z;
          sized =
              turn-next (λ j. length (decoded_bytes file n externals long masks each results₀ j) ≡ each) party r.sized
              (sym (ap length z) ∙ l ∙ steps_long r.level h refl);
          met =
              turn-next (Told (decode_checks file n externals long masks each results₀)) party r.met
              (told_as (decode_checks file n externals long masks each results₀) party (ap₂ (λ (a b : List ℕ). decode_checked file n party a sheet b) o' p
              ∙ ap (λ (s : List ℕ). decode_checked file n party (nth_piece externals long party) s (nth_piece results₀ each party)) m')
              d.answer);
        }

  pub decode-all : {party from at : ℕ} {results : List ℕ} → DecodeTo file n externals long masks each results₀ party from at results → n ≤ party
      → DecodedByAll file n externals long masks each results₀ results
  decode-all r h =
      record {
        calls =
            λ j b.
            let m = r.met j (omega arith) in
            record { number = m.number; place = m.place; holds = record { answer = m.holds; results_is = parts_all r.level h r.sized j b } };
      }
