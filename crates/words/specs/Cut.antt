-- The word that the code makes of an item whose fields may have any size: they are cut so that none reaches into another or into the kind.
-- Assumes nothing.
use Rattle.std.specs.Prelude.{ℕ, ◌+◌, ◌*◌, ◌%◌}
use Rattle.words.specs.declared.item.Item.{Item}
use Rattle.words.specs.declared.item.Item.TheVariants.{Head, Input, Add, Scale, Multiply, Project, Entry, Select, Branches, Output, End}

abbrev pub cut_word : Item → ℕ
cut_word Head = 0x1000_0000
cut_word (Input owner modulus) = 0x2000_0000 + 65536 * (owner % 256) + modulus % 256
cut_word (Add a b) = 0x3000_0000 + 1024 * (a % 1024) + b % 1024
cut_word (Scale constant a) = 0x4000_0000 + 1024 * (constant % 1024) + a % 1024
cut_word (Multiply a b) = 0x5000_0000 + 1024 * (a % 1024) + b % 1024
cut_word (Project modulus a) = 0x6000_0000 + 1024 * (modulus % 1024) + a % 1024
cut_word (Entry image) = 0x7000_0000 + image % 1024
cut_word (Select bit) = 0x8000_0000 + bit % 1024
cut_word (Branches a b) = 0x9000_0000 + 1024 * (a % 1024) + b % 1024
cut_word (Output named a) = 0xa000_0000 + 1024 * (named % 1024) + a % 1024
cut_word End = 0xb000_0000
