-- Calls one after the other, on a chip; and the calls of a text, line by line.
use Rattle.std.proofs.Common.{◌≡◌, ℕ, zero, suc, ◌+◌, ◌-◌, ◌<◌, ◌≤◌, min, Bool, true, false, eqb, List, [], ◌∷◌, ◌++◌, length, take, sym, refl, ap, ◌∙◌, subst, ap₂, inl, append_assoc, append-nil, Err, arith, length-drop, length-take}
use Rattle.std.proofs.lemmas.Bool.{and_from, and_parts}
use Rattle.meaning.specs.Lines.{pick}
use Rattle.meaning.specs.House.{House}
use Rattle.meaning.specs.Calls.{Answer, Call}
use Rattle.meaning.specs.Chip.{Chip}
use Rattle.journal.specs.Acts.{Act, write, wipe, say, done, all_done, Torn, LeftAfter, said}
use Rattle.meaning.specs.Promise.{all_readable, readable}
use Rattle.journal.specs.Programs.{acts}
use Rattle.limits.specs.Opening.{limits_mean}
use Rattle.limits.specs.declared.Limits.{Limits}
use Rattle.scan.specs.Words.{front, line_of, past_line}
use Rattle.scan.specs.declared.Kind.TheVariants as kind
use Rattle.store.specs.Whole.{house}
use Rattle.store.specs.declared.Memory.{Memory}
use Rattle.text.specs.CallLines.{line_call}
use Rattle.text.proofs.Fits.{line_readable}
use Rattle.journal.proofs.Machine.{said-++}
use Rattle.journal.proofs.Runs.{all-done-++}
use Rattle.journal_rows.specs.Layout.{program}
use Rattle.journal_rows.specs.Bytes.{page_bytes}
use Rattle.journal_steps.specs.Steps.{journal_of}
use Rattle.journal_steps.specs.declared.Journal.{Journal}
use Rattle.session.specs.declared.Session.{Session}
use Rattle.driver.specs.Played.{CallPlayed, Finished, Progress, Stopped}
use Rattle.driver.proofs.Runs.{left_later, take_later}
use Rattle.every_call.specs.Stage.{stage_calls}
use Rattle.player.specs.Texts.{CutOff, PlaysLine, calls_in}
use Rattle.call_files.specs.Lines.{passed_over}
use Rattle.player.specs.declared.LineFault.{LineFault}
use Rattle.player.specs.declared.LineFault.TheVariants as line

-- the acts that the program does for some calls, from a journal and a house on
abbrev pub owes : Limits → Journal → House → List Call → List (Act Answer)
owes l j h cs = acts (program page_bytes (limits_mean stage_calls l)) (journal_of (limits_mean stage_calls l) j h) cs

-- power that fails in some acts fails in them and those behind
left_front : (e f : Chip) (xs ys : List (Act Answer)) (k : ℕ) → k < length xs → LeftAfter e xs k f → LeftAfter e (xs ++ ys) k f
unfolding LeftAfter
left_front e f [] ys k lt l = absurd (omega arith)
left_front e f (x ∷ xs) ys zero lt l = l
left_front e f (x ∷ xs) ys (suc k) lt l = left_front (done e x) f xs ys k (omega arith) l

take_front : (xs ys : List (Act Answer)) (k : ℕ) → k < length xs → take k (xs ++ ys) ≡ take k xs
take_front [] ys k lt = absurd (omega arith)
take_front (x ∷ xs) ys zero lt = refl
take_front (x ∷ xs) ys (suc k) lt = ap (λ r. x ∷ r) (take_front xs ys k (omega arith))

-- a chip that was left alone is one that a tear may leave
same : (e : Chip) (x : Act Answer) → Torn e x e
unfolding Torn
same e (write k bs) = λ j. inl refl
same e (wipe b) = λ j. inl refl
same e (say a) = λ j. refl

untouched : (e : Chip) (xs : List (Act Answer)) → LeftAfter e xs 0 e
unfolding LeftAfter
untouched e [] = λ j. refl
untouched e (x ∷ xs) = same e x

nothing : (us : List Answer) (xs : List (Act Answer)) → us ≡ us ++ said (take 0 xs)
unfolding said
nothing us [] = sym (append-nil us)
nothing us (x ∷ xs) = sym (append-nil us)

module _ (d : Chip) (ts : List Answer) (before : List (Act Answer)) where
  -- some more acts are done
  finished_more : (xs ys : List (Act Answer)) (e f : Chip) (us vs : List Answer) → Progress d ts before (xs ++ ys) e us → Finished e us xs f vs true → Progress d ts before ys f vs
  finished_more xs ys e f us vs p q = record {
    past = p.past ++ xs;
    split = p.split ∙ sym (append_assoc p.past xs ys);
    chip = q.0 ∙ ap (λ c. all_done c xs) p.chip ∙ sym (all-done-++ d p.past xs);
    heard = q.1 ∙ ap (λ r. r ++ said xs) p.heard ∙ append_assoc ts (said p.past) (said xs) ∙ ap (λ r. ts ++ r) (sym (said-++ p.past xs));
  }

  -- acts that were cut off behind others
  cut_behind : (past now : List (Act Answer)) (e f : Chip) (us vs : List Answer) → before ≡ past ++ now → e ≡ all_done d past → us ≡ ts ++ said past → CutOff e us now f vs → CutOff d ts before f vs
  cut_behind past now e f us vs s c h q = record {
    at = length past + q.at;
    left = subst (λ r. LeftAfter d r (length past + q.at) f) (sym s) (left_later d f past now q.at (subst (λ x. LeftAfter x now q.at f) c q.left));
    heard =
        q.heard ∙ ap (λ r. r ++ said (take q.at now)) h ∙ append_assoc ts (said past) (said (take q.at now))
        ∙ ap (λ r. ts ++ r) (sym (said-++ past (take q.at now)) ∙ ap said (sym (take_later past now q.at) ∙ ap (take (length past + q.at)) (sym s)));
  }

  cut_in : (xs ys : List (Act Answer)) (e f : Chip) (us vs : List Answer) → Progress d ts before (xs ++ ys) e us → Stopped e us xs f vs → CutOff d ts before f vs
  cut_in xs ys e f us vs p q = cut_behind p.past (xs ++ ys) e f us vs p.split p.chip p.heard (record { at = q.at; left = left_front e f xs ys q.at q.in_it q.left; heard = q.heard ∙ ap (λ r. us ++ said r) (sym (take_front xs ys q.at q.in_it)) })

  -- nothing more was done
  cut_here : (now : List (Act Answer)) (e : Chip) (us : List Answer) → Progress d ts before now e us → CutOff d ts before e us
  cut_here now e us p = cut_behind p.past now e e us us p.split p.chip p.heard (record { at = 0; left = untouched e now; heard = nothing us now })

  cut_same : (now : List (Act Answer)) (e f : Chip) (us vs : List Answer) → Progress d ts before now e us → f ≡ e → vs ≡ us → CutOff d ts before f vs
  cut_same now e f us vs p q r = subst (λ (x : Chip). CutOff d ts before x vs) (sym q) (subst (λ (x : List Answer). CutOff d ts before e x) (sym r) (cut_here now e us p))

  -- ONE CALL MORE, where power held
  pub call_more : (l : Limits) (s t : Session) (m n : Memory) (c : Call) (cs : List Call) (e f : Chip) (us vs : List Answer) → m.limits ≡ l → Progress d ts before (owes l s.journal (house m) (c ∷ cs)) e us →
      CallPlayed s t m n c e us f vs true → Progress d ts before (owes l t.journal (house n) cs) f vs
  unfolding acts
  call_more l s t m n c cs e f us vs q p k =
      subst (λ (u : Limits). Progress d ts before (owes u t.journal (house n) cs) f vs) q
      (subst (λ w. Progress d ts before (acts (program page_bytes (limits_mean stage_calls m.limits)) w cs) f vs) (sym k.next)
      (finished_more _ _ e f us vs (subst (λ (u : Limits). Progress d ts before (owes u s.journal (house m) (c ∷ cs)) e us) (sym q) p) k.acts))

  -- and where it failed
  call_cut : (l : Limits) (s t : Session) (m n : Memory) (c : Call) (cs : List Call) (e f : Chip) (us vs : List Answer) → m.limits ≡ l → Progress d ts before (owes l s.journal (house m) (c ∷ cs)) e us →
      CallPlayed s t m n c e us f vs false → CutOff d ts before f vs
  unfolding acts
  call_cut l s t m n c cs e f us vs q p k = cut_in _ _ e f us vs (subst (λ (u : Limits). Progress d ts before (owes u s.journal (house m) (c ∷ cs)) e us) (sym q) p) k.acts

  -- a line that was not played to its end
  pub line_cut : (l : Limits) (s t : Session) (m n : Memory) (c : Call) (cs : List Call) (e f : Chip) (us vs : List Answer) (fault : LineFault) → m.limits ≡ l → Progress d ts before (owes l s.journal (house m) (c ∷ cs)) e us →
      PlaysLine s t m n c e us f vs (Err fault) → CutOff d ts before f vs
  line_cut l s t m n c cs e f us vs line.PowerFailed q p k = call_cut l s t m n c cs e f us vs q p k
  line_cut l s t m n c cs e f us vs line.NoMemory q p k = cut_same _ e f us vs p k.2 k.3

-- LINE BY LINE: a line that is passed over, and one that is a call
line_over : (n : ℕ) (bs : List ℕ) → 0 < length bs → passed_over (line_of bs) ≡ true → calls_in (suc n) bs ≡ calls_in n (past_line bs)
unfolding calls_in
line_over n [] lt e = absurd (omega arith)
line_over n (b ∷ bs) lt e = ap (λ (t : Bool). pick t [] (line_call (line_of (b ∷ bs)) ∷ []) ++ calls_in n (past_line (b ∷ bs))) e

line_called : (n : ℕ) (bs : List ℕ) → 0 < length bs → passed_over (line_of bs) ≡ false → calls_in (suc n) bs ≡ line_call (line_of bs) ∷ calls_in n (past_line bs)
unfolding calls_in
line_called n [] lt e = absurd (omega arith)
line_called n (b ∷ bs) lt e = ap (λ (t : Bool). pick t [] (line_call (line_of (b ∷ bs)) ∷ []) ++ calls_in n (past_line (b ∷ bs))) e

pub no_lines : (n : ℕ) (bs : List ℕ) → length bs ≡ 0 → calls_in n bs ≡ []
unfolding calls_in
no_lines zero bs e = refl
no_lines (suc n) [] e = refl
no_lines (suc n) (b ∷ bs) e = absurd (omega arith)

-- what is owed for the lines that are left
pub step_over : (d : Chip) (ts : List Answer) (before : List (Act Answer)) (l : Limits) (j : Journal) (h : House) (n : ℕ) (bs cs : List ℕ) (e : Chip) (us : List Answer) → 0 < length bs → length bs ≤ n → cs ≡ past_line bs → passed_over (line_of bs) ≡ true →
    Progress d ts before (owes l j h (calls_in n bs)) e us → Progress d ts before (owes l j h (calls_in (n - 1) cs)) e us
step_over d ts before l j h zero bs cs e us p q r t x = absurd (omega arith)
step_over d ts before l j h (suc n) bs cs e us p q r t x =
    let z : suc n - 1 ≡ n = omega arith in
    subst (λ (w : List Call). Progress d ts before (owes l j h w) e us) (line_over n bs p t ∙ ap₂ calls_in (sym z) (sym r)) x

pub step_call : (d : Chip) (ts : List Answer) (before : List (Act Answer)) (l : Limits) (j : Journal) (h : House) (n : ℕ) (bs cs line : List ℕ) (e : Chip) (us : List Answer) → 0 < length bs → length bs ≤ n → cs ≡ past_line bs → line ≡ line_of bs → passed_over line ≡ false →
    Progress d ts before (owes l j h (calls_in n bs)) e us → Progress d ts before (owes l j h (line_call line ∷ calls_in (n - 1) cs)) e us
step_call d ts before l j h zero bs cs line e us p q r v t x = absurd (omega arith)
step_call d ts before l j h (suc n) bs cs line e us p q r v t x =
    let z : suc n - 1 ≡ n = omega arith in
    subst (λ (w : List Call). Progress d ts before (owes l j h w) e us) (line_called n bs p (ap passed_over (sym v) ∙ t) ∙ ap₂ (λ (a : List ℕ) (b : List Call). line_call a ∷ b) (sym v) (ap₂ calls_in (sym z) (sym r))) x

-- no calls owe nothing
pub nothing_owed : (l : Limits) (j : Journal) (h : House) → owes l j h [] ≡ []
unfolding acts
nothing_owed l j h = refl

-- a text that is not empty has a byte
pub some_bytes : (bs : List ℕ) → eqb (length bs) 0 ≡ false → 0 < length bs
some_bytes [] e = let z : ◌≡◌ {A = ℕ} 0 1 = cc in absurd (omega arith)
some_bytes (b ∷ bs) e = omega arith

-- every line of a text that is not too long is a call whose numbers can be written in their fields
readable-++ : (cs ds : List Call) → all_readable cs ≡ true → all_readable ds ≡ true → all_readable (cs ++ ds) ≡ true
unfolding all_readable
readable-++ [] ds p q = q
readable-++ (c ∷ cs) ds p q = let both = and_parts (readable c) (all_readable cs) p in and_from _ _ both.0 (readable-++ cs ds both.1 q)

pub text_readable : (n : ℕ) (bs : List ℕ) → length bs < 4294967296 → all_readable (calls_in n bs) ≡ true
unfolding calls_in all_readable
text_readable zero bs h = refl
text_readable (suc n) [] h = refl
text_readable (suc n) (b ∷ bs) h = readable-++ (pick (passed_over (line_of (b ∷ bs))) [] (line_call (line_of (b ∷ bs)) ∷ [])) (calls_in n (past_line (b ∷ bs))) (go (passed_over (line_of (b ∷ bs)))) (text_readable n (past_line (b ∷ bs)) rest)
  where
    short : length (line_of (b ∷ bs)) < 4294967296
    short = omega (arith, h, length-take (front kind.InLine (b ∷ bs)) (b ∷ bs))

    rest : length (past_line (b ∷ bs)) < 4294967296
    rest = omega (arith, h, length-drop (min (length (b ∷ bs)) (front kind.InLine (b ∷ bs) + 1)) (b ∷ bs))

    go : (t : Bool) → all_readable (pick t [] (line_call (line_of (b ∷ bs)) ∷ [])) ≡ true
    go true = refl
    go false = and_from _ _ (line_readable (line_of (b ∷ bs)) short) refl
