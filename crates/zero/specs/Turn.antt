-- What making one wire's zero keys, or its mask, asks: that what its recipe reads stands there. Acceptance and the order of the wires give all of it.
-- Assumes nothing.
use Rattle.std.specs.Prelude.{◌≡◌, List, ℕ, ◌+◌, ◌*◌, ◌%◌, ◌≤◌, ◌<◌, length, get_or}
use Rattle.lists.specs.Blocks.{blocks, sum_to, part, nth_piece, written}
use Rattle.words.specs.declared.gate.Wire.{Wire}
use Rattle.counts.specs.declared.recipe.Recipe.{Recipe}
use Rattle.counts.specs.declared.recipe.Recipe.TheVariants.{Entered, Sum, Multiple, Table, Product, Choice}
use Rattle.counts.specs.Recipe.{recipe}
use Rattle.plain.specs.Ready.{Below, PairReady}
use Rattle.scheme.specs.Zero.{zero_key_by, mask_by}

-- the keys of n parties at one place of their contributions, and the sum of their shares at one place
unfoldable pub keys_at : ℕ → ℕ → ℕ → List ℕ → ℕ → List ℕ
keys_at n K size contributions at = blocks n (λ party. part (nth_piece contributions size party) at K)

unfoldable pub mask_at : ℕ → ℕ → List ℕ → ℕ → ℕ → ℕ
mask_at n size contributions p at = sum_to n (λ party. get_or (nth_piece contributions size party) at 0) % p

-- wire a has its m bytes of keys
pub record Stands (m : ℕ) (keys : List ℕ) (a : ℕ) : Type 0 where
  pub inside : a * m + m ≤ length keys

-- by recipe: a record's key ends inside the contribution, and the wires read have theirs
abbrev pub KeysReady : ℕ → ℕ → ℕ → ℕ → List ℕ → Recipe → Type 0
KeysReady m K size at keys Entered = at + K ≤ size
KeysReady m K size at keys (Sum g) = Stands m keys g.a × Stands m keys g.b
KeysReady m K size at keys (Multiple g) = Stands m keys g.a
KeysReady m K size at keys (Table g) = at + K ≤ size
KeysReady m K size at keys (Product g) = at + K ≤ size
KeysReady m K size at keys (Choice g) = (at + K ≤ size) × Stands m keys g.a

pub record KeysAsked (n K size at p : ℕ) (r : Recipe) (contributions keys : List ℕ) : Type 0 where
  pub all : length contributions ≡ n * size
  pub positive : 0 < p
  pub ready : KeysReady (n * K) K size at keys r

-- the zero keys of a wire whose record stands at a place, from those of lower wires
abbrev pub key_here : ℕ → ℕ → ℕ → ℕ → List ℕ → List ℕ → Wire → List ℕ
key_here n K size at contributions keys wire =
    zero_key_by (keys_at n K size contributions at) wire.modulus (λ a. nth_piece keys (n * K) a) (recipe wire)

-- n·K bytes were written at a place
pub record Put (n K to : ℕ) (key keys keys' : List ℕ) : Type 0 where
  pub long : length key ≡ n * K
  pub eq : keys' ≡ written keys to key

-- .. a record's share stands inside the contribution, and the masks read are residues
abbrev pub MaskReady : ℕ → ℕ → ℕ → List ℕ → Recipe → Type 0
MaskReady p size at masks Entered = at < size
MaskReady p size at masks (Sum g) = PairReady masks p g
MaskReady p size at masks (Multiple g) = Below masks p g.a
MaskReady p size at masks (Table g) = at < size
MaskReady p size at masks (Product g) = at < size
MaskReady p size at masks (Choice g) = (at < size) × Below masks p g.a

pub record MaskAsked (n size at p : ℕ) (r : Recipe) (contributions masks : List ℕ) : Type 0 where
  pub all : length contributions ≡ n * size
  pub parties : n ≤ 8
  pub positive : 0 < p
  pub ready : MaskReady p size at masks r

-- the mask of a wire whose shares stand at a place, from those of lower wires
abbrev pub mask_here : ℕ → ℕ → ℕ → List ℕ → List ℕ → Wire → ℕ
mask_here n size at contributions masks wire =
    mask_by (mask_at n size contributions wire.modulus at) wire.modulus (λ a. get_or masks a 0) (recipe wire)
