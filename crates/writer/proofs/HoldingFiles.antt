-- The lent file in the pass that lays: a word put down behind the words so far, and several.
-- Assumes nothing.
use mathlib.Core.Path.{◌≡◌, refl, sym, ap, ◌∙◌}
use mathlib.Core.Bool.{Bool, true, false, true≢false, cond}
use mathlib.Core.List.{List, [], ◌∷◌, ◌++◌}
use Prim.Native.Nat.{ℕ, suc, ◌+◌, ◌*◌, ◌≤◌}
use native.Mathlib.Omega.{arith}
use lib.Dec.{leb}
use lib.ListN.{length, drop, length-append, length-drop}
use lib.Seq.{take_at, drop_at, drop-drop}
use borrow.Author.Tests.{le-leb, leb-true}
use Rattle.lists.specs.Blocks.{written}
use Rattle.lists.proofs.Written.{length-written}
use Rattle.words.specs.Encode.{bytes_of, file_of}
use Rattle.words.proofs.Files.{file_append, length-file}
use Rattle.writer.specs.Desk.{put_word, put_words}
use Rattle.writer.specs.Call.{file_with}

-- a word put down changes no length
pub length_put : (file : List ℕ) (at w : ℕ) → length (put_word file at w) ≡ length file
unfolding put_word
length_put file at w = by (leb (4 * at + 4) (length file)) refl
  where
    by : (b : Bool) → leb (4 * at + 4) (length file) ≡ b → length (cond b (written file (4 * at) (bytes_of w)) file) ≡ length file
    by true e = length-written file (4 * at) (bytes_of w) (leb-true (4 * at + 4) (length file) e)
    by false e = refl

pub length_puts : (ws file : List ℕ) (at : ℕ) → length (put_words file at ws) ≡ length file
unfolding put_words
length_puts [] file at = refl
length_puts (w ∷ ws) file at = length_puts ws (put_word file at w) (suc at) ∙ length_put file at w

pub put_front : (ws before : List ℕ) (w : ℕ) → 4 * length (ws ++ (w ∷ [])) ≤ length before → put_word (file_with ws before) (length ws) w ≡ file_with (ws ++ (w ∷ [])) before
unfolding put_word written file_of
put_front ws before w room =
    let n : ℕ = length ws in
    let more : length (ws ++ (w ∷ [])) ≡ n + 1 = length-append ws (w ∷ []) in
    let long : length (file_with ws before) ≡ length before = length-append (file_of ws) (drop (4 * n) before) ∙ rw (length-file ws, length-drop (4 * n) before) (omega (arith, room, more)) in
    let fits : leb (4 * n + 4) (length (file_with ws before)) ≡ true = le-leb (4 * n + 4) (length (file_with ws before)) (omega (arith, long, room, more)) in
    let end : 4 * n + 4 ≡ 4 * length (ws ++ (w ∷ [])) = omega (arith, more) in
    rw fits
    (ap (λ (l : List ℕ). l ++ bytes_of w ++ drop (4 * n + 4) (file_with ws before)) (take_at (file_of ws) (drop (4 * n) before) (4 * n) (length-file ws))
    ∙ ap (λ (l : List ℕ). file_of ws ++ bytes_of w ++ l)
    (sym (drop-drop 4 (4 * n) (file_with ws before)) ∙ ap (drop 4) (drop_at (file_of ws) (drop (4 * n) before) (4 * n) (length-file ws)) ∙ drop-drop 4 (4 * n) before)
    ∙ ap (λ (l : List ℕ). l ++ drop (4 * n + 4) before) (sym (file_append ws (w ∷ [])))
    ∙ ap (λ (m : ℕ). file_of (ws ++ (w ∷ [])) ++ drop m before) end)

-- the file as the pass has left it: as it was, or with the words at its front, if they have room
pub record Kept (lay : Bool) (before file ws : List ℕ) : Type 0 where
  pub size : length file ≡ length before
  pub kept : lay ≡ false → file ≡ before
  pub laid : lay ≡ true → 4 * length ws ≤ length before → file ≡ file_with ws before

-- one word more
pub kept_more : (lay : Bool) {before file ws : List ℕ} (w : ℕ) {at : ℕ} → Kept lay before file ws → at ≡ length ws → Kept lay before (cond lay (put_word file at w) file) (ws ++ (w ∷ []))
kept_more true {before} {file} {ws} w {at} k e =
    record {
      size = length_put file at w ∙ k.size;
      kept = λ f. absurd (true≢false f);
      laid = λ f room.
          ap (λ (n : ℕ). put_word file n w) e
          ∙ ap (λ (l : List ℕ). put_word l (length ws) w) (k.laid refl (omega (arith, length-append ws (w ∷ []), room)))
          ∙ put_front ws before w room;
    }
kept_more false w k e = record { size = k.size; kept = k.kept; laid = λ f room. absurd (true≢false (sym f)) }
