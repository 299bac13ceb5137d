-- What writing promises below the C face: the answer, the number of words, and every byte of the file.
-- Assumes nothing.
use Rattle.std.specs.Prelude.{◌≡◌, true, List, ℕ, length, Result, Ok, Err, IfOk}
use Rattle.checks.specs.declared.Refused.{Refused}
use Rattle.checks.specs.Answer.{answer_of, number_in, place_in}
use Rattle.checks.specs.Checked.{afterwards}
use Rattle.words.specs.declared.item.Item.TheVariants.{End}
use Rattle.words.specs.Encode.{word_of}
use Rattle.writer.specs.declared.entry.Record.{Record}
use Rattle.writer.specs.declared.pen.Pen.{Pen}
use Rattle.writer.specs.Call.{file_with, words_written, write_checked}
use Rattle.writer.specs.Desk.{put_word}
use Rattle.writer.specs.Walked.{Walked}

pub record Writes (records : List Record) (tables file₀ : List ℕ) (words : Result ℕ Refused) (file : List ℕ) : Type 0 where
  pub answer : answer_of words ≡ write_checked records tables (length file₀)
  pub words_are : IfOk words (λ n. n ≡ length (words_written records tables))
  pub file_is : file ≡ afterwards (write_checked records tables (length file₀)) (file_with (words_written records tables) file₀) file₀

-- the end of the file, by what was settled of the records: they are walked again and the end word is laid behind their words, or nothing more is touched
pub data Finished (records : List Record) (tables file₁ : List ℕ) : Result ℕ Refused → List ℕ → Type 0 where
  laid :
      {n : ℕ} {pen : Pen} {moduli file₂ file : List ℕ}
      → Walked true tables file₁ records (length records) pen moduli file₂
      → file ≡ put_word file₂ pen.at (word_of End)
      → Finished records tables file₁ (Ok n) file
  kept : {why : Refused} {file : List ℕ} → file ≡ file₁ → Finished records tables file₁ (Err why) file

-- what is then told: number and place, and how many words there are, which where the call is refused stays as it was
abbrev pub words_told : Result ℕ Refused → ℕ → ℕ
words_told (Ok n) words₀ = n
words_told (Err why) words₀ = words₀

pub record Tells (settled : Result ℕ Refused) (words₀ number place words : ℕ) : Type 0 where
  pub number_is : number ≡ number_in (answer_of settled)
  pub place_is : place ≡ place_in (answer_of settled)
  pub words_is : words ≡ words_told settled words₀
