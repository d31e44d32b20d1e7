-- One call at a time suffices.
use Rattle.std.proofs.Common.{◌≡◌, ℕ, zero, suc, true, ◌⊎◌, List, [], ◌∷◌, ◌++◌, length, take, sym, refl, ap, ◌∙◌, subst, inl, inr, append_assoc, arith}
use mathlib.Core.Path.{fun_ext}
use Rattle.std.proofs.lemmas.Bool.{and_parts, and_from}
use Rattle.meaning.specs.Chip.{Chip}
use Rattle.journal.specs.Acts.{Act, write, wipe, say, done, all_done, Torn, LeftAfter, said, careful}
use Rattle.journal.specs.Programs.{Program, acts}
use Rattle.journal.specs.Costs.{Rising}
use Rattle.journal.specs.Machine.{Machine, answers, ran, all_readable, IsMachine, Steps, ReadsBy}

-- acts one after the other
pub careful-++ : {A : Type 0} (n : ℕ) (d : Chip) (xs ys : List (Act A)) → careful n d xs ≡ true → careful n (all_done d xs) ys ≡ true → careful n d (xs ++ ys) ≡ true
unfolding careful all_done done
careful-++ n d [] ys p q = q
careful-++ {A = A} n d (write k bs ∷ xs) ys p q =
    let both = and_parts _ _ p in
    and_from _ _ both.0 (careful-++ n (done {A = A} d (write k bs)) xs ys both.1 q)
careful-++ {A = A} n d (wipe b ∷ xs) ys p q =
    let both = and_parts _ _ p in
    and_from _ _ both.0 (careful-++ n (done {A = A} d (wipe b)) xs ys both.1 q)
careful-++ n d (say a ∷ xs) ys p q = careful-++ n d xs ys p q

pub said-++ : {A : Type 0} (xs ys : List (Act A)) → said (xs ++ ys) ≡ said xs ++ said ys
unfolding said
said-++ [] ys = refl
said-++ (write k bs ∷ xs) ys = said-++ xs ys
said-++ (wipe b ∷ xs) ys = said-++ xs ys
said-++ (say a ∷ xs) ys = ap (λ r. a ∷ r) (said-++ xs ys)

pub rising-++ : {A : Type 0} (d : Chip) (xs ys : List (Act A)) → Rising d xs → Rising (all_done d xs) ys → Rising d (xs ++ ys)
unfolding Rising all_done done
rising-++ d [] ys p q = q
rising-++ {A = A} d (write k bs ∷ xs) ys p q = (p.0, rising-++ (done {A = A} d (write k bs)) xs ys p.1 q)
rising-++ {A = A} d (wipe b ∷ xs) ys p q = rising-++ (done {A = A} d (wipe b)) xs ys p q
rising-++ d (say a ∷ xs) ys p q = rising-++ d xs ys p q

-- where among quiet acts, an answer and the rest power fails: before the answer is out, or later
After : {A : Type 0} → Chip → List (Act A) → A → List (Act A) → ℕ → Chip → Type 0
After d q a rest k e =
    (LeftAfter d q k e × (said (take k (q ++ (say a ∷ rest))) ≡ [])) ⊎ ((i : ℕ) × LeftAfter (all_done d q) rest i e × (said (take k (q ++ (say a ∷ rest))) ≡ a ∷ said (take i rest)))

parts : {A : Type 0} (d e : Chip) (q : List (Act A)) (a : A) (rest : List (Act A)) (k : ℕ) → said q ≡ [] → LeftAfter d (q ++ (say a ∷ rest)) k e → After d q a rest k e
unfolding After LeftAfter all_done said Torn done
parts d e [] a rest zero s l = inl (l, refl)
parts d e [] a rest (suc k) s l = inr (k, l, refl)
parts d e (write j bs ∷ q) a rest zero s l = inl (l, refl)
parts {A = A} d e (write j bs ∷ q) a rest (suc k) s l = parts (done {A = A} d (write j bs)) e q a rest k s l
parts d e (wipe b ∷ q) a rest zero s l = inl (l, refl)
parts {A = A} d e (wipe b ∷ q) a rest (suc k) s l = parts (done {A = A} d (wipe b)) e q a rest k s l
parts d e (say b ∷ q) a rest k s l = let z : ◌≡◌ {A = ℕ} 0 1 = cc in absurd (omega arith)

ran-++ : {C A : Type 0} (m : Machine C A) (h : m.State) (ts cs : List C) → ran m h (ts ++ cs) ≡ ran m (ran m h ts) cs
unfolding ran
ran-++ m h [] cs = refl
ran-++ m h (t ∷ ts) cs = ran-++ m (m.after h t) ts cs

-- power failed when so much was heard: what is left holds the state after the calls that were answered, or after one more
abbrev KeptAt : {C A : Type 0} (m : Machine C A) → (m.State → Type 0) → m.State → List C → List A → Type 0
KeptAt m Left h cs heard = Left (ran m h (take (length heard) cs)) ⊎ Left (ran m h (take (suc (length heard)) cs))

module _ {C A : Type 0} (m : Machine C A) (n : ℕ) (p : Program C A) (st : Steps m n p) where
  acts_cons : (d : Chip) (s : p.State) (h : m.State) (c : C) (cs : List C) → st.Runs d s h → m.readable c ≡ true →
      acts p s (c ∷ cs) ≡ st.quiet s c ++ (say (m.answer h c) ∷ acts p (p.next s c) cs)
  unfolding acts
  acts_cons d s h c cs r g = rw (st.shape d s h c r g) (append_assoc (st.quiet s c) _ _)

  run_care : (d : Chip) (s : p.State) (h : m.State) (cs : List C) → st.Runs d s h → all_readable m cs ≡ true → careful n d (acts p s cs) ≡ true
  unfolding all_readable careful acts
  run_care d s h [] r g = refl
  run_care d s h (c ∷ cs) r g =
      let both = and_parts (m.readable c) (all_readable m cs) g in
      subst (λ x. careful n d x ≡ true) (sym (acts_cons d s h c cs r both.0))
      (careful-++ n d (st.quiet s c) _ (st.cares d s h c r both.0) (run_care (all_done d (st.quiet s c)) (p.next s c) (m.after h c) cs (st.goes_on d s h c r both.0) both.1))

  pub run_rises : ((d : Chip) (s : p.State) (h : m.State) (c : C) → st.Runs d s h → m.readable c ≡ true → Rising d (st.quiet s c)) →
      (d : Chip) (s : p.State) (h : m.State) (cs : List C) → st.Runs d s h → all_readable m cs ≡ true → Rising d (acts p s cs)
  unfolding all_readable Rising acts
  run_rises one d s h [] r g = tt
  run_rises one d s h (c ∷ cs) r g =
      let both = and_parts (m.readable c) (all_readable m cs) g in
      subst (λ x. Rising d x) (sym (acts_cons d s h c cs r both.0))
      (rising-++ d (st.quiet s c) _ (one d s h c r both.0) (run_rises one (all_done d (st.quiet s c)) (p.next s c) (m.after h c) cs (st.goes_on d s h c r both.0) both.1))

  run_right : (d : Chip) (s : p.State) (h : m.State) (cs : List C) → st.Runs d s h → all_readable m cs ≡ true → said (acts p s cs) ≡ answers m h cs
  unfolding acts all_readable said answers
  run_right d s h [] r g = refl
  run_right d s h (c ∷ cs) r g =
      let both = and_parts (m.readable c) (all_readable m cs) g in
      ap said (acts_cons d s h c cs r both.0) ∙ said-++ (st.quiet s c) _ ∙ rw (st.silent s c) (ap (λ w. m.answer h c ∷ w) (run_right (all_done d (st.quiet s c)) (p.next s c) (m.after h c) cs (st.goes_on d s h c r both.0) both.1))

  run_kept : (d e : Chip) (s : p.State) (h : m.State) (cs : List C) (k : ℕ) → st.Runs d s h → all_readable m cs ≡ true → LeftAfter d (acts p s cs) k e →
      KeptAt m (st.Holds e) h cs (said (take k (acts p s cs)))
  unfolding all_readable said ran LeftAfter After acts
  run_kept d e s h [] k r g l = inr (subst (λ x. st.Holds x h) (sym (fun_ext l)) (st.rests d s h r))
  run_kept d e s h (c ∷ cs) k r g l =
      let both = and_parts (m.readable c) (all_readable m cs) g in
      let eq = acts_cons d s h c cs r both.0 in
      subst (λ x. KeptAt m (st.Holds e) h (c ∷ cs) (said (take k x))) (sym eq)
      (go both.0 both.1 (λ i. run_kept (all_done d (st.quiet s c)) e (p.next s c) (m.after h c) cs i (st.goes_on d s h c r both.0) both.1) (parts d e (st.quiet s c) _ _ k (st.silent s c) (subst (λ x. LeftAfter d x k e) eq l)))
    where
      rest : List (Act A)
      rest = acts p (p.next s c) cs

      go : m.readable c ≡ true → all_readable m cs ≡ true → ((i : ℕ) → LeftAfter (all_done d (st.quiet s c)) rest i e → KeptAt m (st.Holds e) (m.after h c) cs (said (take i rest))) →
          After d (st.quiet s c) (m.answer h c) rest k e → KeptAt m (st.Holds e) h (c ∷ cs) (said (take k (st.quiet s c ++ (say (m.answer h c) ∷ rest))))
      go g1 g2 ih (inl (lq, none)) = subst (KeptAt m (st.Holds e) h (c ∷ cs)) (sym none) (st.torn d e s h c k r g1 lq)
      go g1 g2 ih (inr (i, li, eq)) = subst (KeptAt m (st.Holds e) h (c ∷ cs)) (sym eq) (ih i li)

  pub steps_suffice : IsMachine m n p (ReadsBy m st.Holds)
  unfolding ran
  steps_suffice = record {
    new = st.fresh;
    care = λ d ts cs r g. run_care d (p.start d) _ cs (st.wakes d _ r) g;
    right = λ d ts cs r g. run_right d (p.start d) _ cs (st.wakes d _ r) g;
    kept = λ d e ts cs k r g l. simp (ran-++ m) (run_kept d e (p.start d) _ cs k (st.wakes d _ r) g l);
  }
