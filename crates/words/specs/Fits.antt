-- Fields that are not too wide for the bits that a word has for them.
-- Assumes nothing.
use Rattle.std.specs.Prelude.{ℕ, ◌<◌}
use Rattle.words.specs.declared.item.Item.{Item}
use Rattle.words.specs.declared.item.Item.TheVariants.{Head, Input, Add, Scale, Multiply, Project, Entry, Select, Branches, Output, End}

-- owner, modulus, constant, image and the parties named have 8 bits, a wire has 10
pub data Fits : Item → Type 0 where
  head : Fits Head
  input : {owner modulus : ℕ} → owner < 256 → modulus < 256 → Fits (Input owner modulus)
  add : {a b : ℕ} → a < 1024 → b < 1024 → Fits (Add a b)
  scale : {constant a : ℕ} → constant < 256 → a < 1024 → Fits (Scale constant a)
  multiply : {a b : ℕ} → a < 1024 → b < 1024 → Fits (Multiply a b)
  project : {modulus a : ℕ} → modulus < 256 → a < 1024 → Fits (Project modulus a)
  entry : {image : ℕ} → image < 256 → Fits (Entry image)
  select : {bit : ℕ} → bit < 1024 → Fits (Select bit)
  branches : {a b : ℕ} → a < 1024 → b < 1024 → Fits (Branches a b)
  output : {named a : ℕ} → named < 256 → a < 1024 → Fits (Output named a)
  end : Fits End
