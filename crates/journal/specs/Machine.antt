-- The promise over any machine, and steps that suffice for it.
use Rattle.std.specs.Prelude.{◌≡◌, ℕ, suc, Bool, true, ◌&&◌, ◌⊎◌, List, [], ◌∷◌, ◌++◌, length, take}
use Rattle.meaning.specs.Chip.{blank, Chip}
use Rattle.journal.specs.Acts.{Act, say, all_done, LeftAfter, said, careful}
use Rattle.journal.specs.Programs.{Program, acts}

-- what is meant: a state of any kind
pub record Machine (C A : Type 0) : Type 1 where
  pub State : Type 0
  pub initial : State
  pub after : State → C → State
  pub answer : State → C → A
  pub readable : C → Bool

unfoldable pub answers : {C A : Type 0} (m : Machine C A) → m.State → List C → List A
answers m h [] = []
answers m h (c ∷ cs) = m.answer h c ∷ answers m (m.after h c) cs

unfoldable pub ran : {C A : Type 0} (m : Machine C A) → m.State → List C → m.State
ran m h [] = h
ran m h (c ∷ cs) = ran m (m.after h c) cs

unfoldable pub all_readable : {C A : Type 0} (m : Machine C A) → List C → Bool
all_readable m [] = true
all_readable m (c ∷ cs) = m.readable c && all_readable m cs

-- the fields of the main promise
pub record IsMachine {C A : Type 0} (m : Machine C A) (n : ℕ) (p : Program C A) (Reads : Chip → List C → Type 0) : Type 0 where
  pub new : (d : Chip) → ((k : ℕ) → d k ≡ blank) → Reads d []
  pub care : (d : Chip) (ts cs : List C) → Reads d ts → all_readable m cs ≡ true → careful n d (acts p (p.start d) cs) ≡ true
  pub right : (d : Chip) (ts cs : List C) → Reads d ts → all_readable m cs ≡ true → said (acts p (p.start d) cs) ≡ answers m (ran m m.initial ts) cs
  pub kept : (d e : Chip) (ts cs : List C) (k : ℕ) → Reads d ts → all_readable m cs ≡ true → LeftAfter d (acts p (p.start d) cs) k e →
      let heard : ℕ = length (said (take k (acts p (p.start d) cs))) in
      Reads e (ts ++ take heard cs) ⊎ Reads e (ts ++ take (suc heard) cs)

-- what has to be shown of one call: the acts of a call are quiet ones, then the answer. A chip at rest holds a state; a chip and a state that run hold one. Torn anywhere in the quiet acts, the
-- chip holds the state from before the call or the one after
pub record Steps {C A : Type 0} (m : Machine C A) (n : ℕ) (p : Program C A) : Type 1 where
  pub Holds : Chip → m.State → Type 0
  pub Runs : Chip → p.State → m.State → Type 0
  pub quiet : p.State → C → List (Act A)
  pub silent : (s : p.State) (c : C) → said (quiet s c) ≡ []
  pub fresh : (d : Chip) → ((k : ℕ) → d k ≡ blank) → Holds d m.initial
  pub wakes : (d : Chip) (h : m.State) → Holds d h → Runs d (p.start d) h
  pub rests : (d : Chip) (s : p.State) (h : m.State) → Runs d s h → Holds d h
  pub shape : (d : Chip) (s : p.State) (h : m.State) (c : C) → Runs d s h → m.readable c ≡ true → p.does s c ≡ quiet s c ++ (say (m.answer h c) ∷ [])
  pub cares : (d : Chip) (s : p.State) (h : m.State) (c : C) → Runs d s h → m.readable c ≡ true → careful n d (quiet s c) ≡ true
  pub goes_on : (d : Chip) (s : p.State) (h : m.State) (c : C) → Runs d s h → m.readable c ≡ true → Runs (all_done d (quiet s c)) (p.next s c) (m.after h c)
  pub torn : (d e : Chip) (s : p.State) (h : m.State) (c : C) (k : ℕ) → Runs d s h → m.readable c ≡ true → LeftAfter d (quiet s c) k e → Holds e h ⊎ Holds e (m.after h c)

-- a chip reads as the calls after which a state is what it holds
abbrev pub ReadsBy : {C A : Type 0} (m : Machine C A) → (Chip → m.State → Type 0) → Chip → List C → Type 0
ReadsBy m Holds d ts = Holds d (ran m m.initial ts)
