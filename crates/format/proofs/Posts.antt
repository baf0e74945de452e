-- What holds of a thing that was got, and of the bytes after it (`Post`), through each step of a reader. Assumes nothing.
use Rattle.std.specs.Prelude.{Ok}
use Rattle.format.proofs.Common.{◌≡◌, refl, ℕ, Bool, true, false, not, List, ◌++◌, T}
use Rattle.format.specs.Digits.{AllBelow}
use Rattle.format.specs.Fields.{pick}
use Rattle.format.specs.Parse.{Reason, Parsed, got, refused, then, unless}

-- ---- what holds of what was got, and that there was something

pub data Post {A : Type 0} (P : A → List ℕ → Type 0) : Parsed A → Type 0 where
  at-got : {a : A} {s : List ℕ} → P a s → Post P (got a s)
  at-refused : {r : Reason} → Post P (refused r)

pub of-got : {A : Type 0} {P : A → List ℕ → Type 0} {a : A} {s : List ℕ} → Post P (got a s) → P a s
of-got (at-got p) = p

pub then-post : {A B : Type 0} {P : A → List ℕ → Type 0} {Q : B → List ℕ → Type 0} {f : A → List ℕ → Parsed B} {m : Parsed A}
    → Post P m → ((a : A) (s : List ℕ) → P a s → Post Q (f a s)) → Post Q (then m f)
then-post (at-got {a} {s} p) h = h a s p
then-post at-refused h = at-refused

pub unless-post : {A : Type 0} {Q : A → List ℕ → Type 0} {m : Parsed A} (b : Bool) (n : ℕ) → (T (not b) → Post Q m) → Post Q (unless b n m)
unless-post true n h = at-refused
unless-post false n h = h tt

pub pick_post : {A : Type 0} {Q : A → List ℕ → Type 0} {m m' : Parsed A} (b : Bool) → (T b → Post Q m) → (T (not b) → Post Q m') → Post Q (pick b m m')
pick_post true h h' = h tt
pick_post false h h' = h' tt

pub unless-no : {A : Type 0} {m : Parsed A} (b : Bool) (n : ℕ) → T (not b) → unless b n m ≡ m
unless-no true n t = absurd t
unless-no false n t = refl

-- a thing was got, its bytes stood in front, and bytes are left
pub record Took {A : Type 0} (bs : List ℕ) (lay : A → List ℕ) (Ok : A → Type 0) (a : A) (rest : List ℕ) : Type 0 where
  pub ok : Ok a
  pub split : bs ≡ lay a ++ rest
  pub rest-bytes : AllBelow 256 rest
