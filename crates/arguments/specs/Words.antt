-- What the words behind a program's name say: the files of the pages and of the calls, and when power fails. A word is a list of bytes. Definitions only: nothing is assumed or proved here.
use Rattle.std.specs.Prelude.{◌≡◌, ℕ, ◌-◌, ◌≤◌, Bool, List, ◌∷◌, ◌++◌, length, take, map, find, replicate, codes, slice_get, Option, Some, None, is_none, unwrap_or, Result, Ok, Err}
use Rattle.std.specs.Str.{bytes_eq}
use Rattle.std.specs.Str.Parse.{ParsesUnsigned}
use Rattle.meaning.specs.Lines.{pick}
use Rattle.arguments.specs.declared.Arguments.{Arguments}
use Rattle.arguments.specs.declared.Trouble.{Trouble}
use Rattle.arguments.specs.declared.Trouble.TheVariants as trouble

-- the number that a word of a tear is: "0", "1" or "2"
unfoldable pub number_of : List ℕ → Option ℕ
number_of w =
    pick (bytes_eq w (codes "0")) (Some 0)
    (pick (bytes_eq w (codes "1")) (Some 1)
    (pick (bytes_eq w (codes "2")) (Some 2) None))

-- is a word no number of a tear
abbrev pub no_number : List ℕ → Bool
no_number w = is_none (number_of w)

-- the first of the first sixteen words of a tear that is no number
abbrev pub wrong_in : List (List ℕ) → Option (List ℕ)
wrong_in ts = find no_number (take 16 ts)

-- the sixteen numbers of a tear: those of its words, and 0 for each that is not there
abbrev pub tear_of : List (List ℕ) → List ℕ
tear_of ts = map (λ w. unwrap_or (number_of w) 0) ts ++ replicate (16 - length ts) 0

-- THE TEAR that words are; or which of them is wrong, the first that is no number, or else the seventeenth
abbrev pub TearTold : List (List ℕ) → Result (List ℕ) Trouble → Type 0
TearTold ts (Ok tear) = (wrong_in ts ≡ None) × (length ts ≤ 16) × (tear ≡ tear_of ts)
TearTold ts (Err (trouble.NoTear w)) = wrong_in ts ≡ Some w.now
TearTold ts (Err (trouble.TooManyTears w)) = (wrong_in ts ≡ None) × (slice_get ts 16 ≡ Some w.now)
TearTold ts (Err _) = ⊥

-- a word is this number of acts, as std's `parse::<u64>` reads it
abbrev pub IsActs : List ℕ → ℕ → Type 0
IsActs w n = ParsesUnsigned {E = ℕ} 64 10 w (Ok n)

-- a word is a number of acts
abbrev pub Numbered : List ℕ → Type 0
Numbered w = (n : ℕ) × IsActs w n

-- WHAT WORDS SAY: the pages, the number of acts, the calls and the tear; or what is wrong in them
abbrev pub Told : List (List ℕ) → Result Arguments Trouble → Type 0
Told (pages ∷ acts ∷ calls ∷ tears) (Ok a) = (a.pages.now ≡ pages) × IsActs acts a.power.acts × (a.calls.now ≡ calls) × TearTold tears (Ok a.power.tear)
Told (pages ∷ acts ∷ calls ∷ tears) (Err (trouble.NoNumber w)) = (w.now ≡ acts) × ¬ (Numbered acts)
Told (pages ∷ acts ∷ calls ∷ tears) (Err t) = Numbered acts × TearTold tears (Err t)
Told _ r = r ≡ Err trouble.TooFew
