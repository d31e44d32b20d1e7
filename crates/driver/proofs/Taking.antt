-- One page more of a start: it is the one that was asked for, it is taken as the definition of a start takes it, and fewer are left.
use Rattle.std.proofs.Common.{◌≡◌, ℕ, ◌*◌, ◌<◌, ◌≤◌, Bool, List, Some, None, sym, refl, ap, ◌∙◌, subst, arith}
use Rattle.meaning.specs.House.{House}
use Rattle.meaning.specs.Calls.{Call}
use Rattle.meaning.specs.Chip.{Chip, Page}
use Rattle.meaning.specs.Promise.{room_for, whole}
use Rattle.limits.specs.Opening.{limits_mean}
use Rattle.limits.specs.declared.Limits.{Limits}
use Rattle.store.specs.Whole.{Lent, Sound, house}
use Rattle.store.specs.declared.Memory.{Memory}
use Rattle.every_call.specs.Stage.{stage, stage_calls}
use Rattle.journal_rows.specs.Layout.{Reads}
use Rattle.journal_rows.specs.Bytes.{page_bytes}
use Rattle.journal_steps.specs.Steps.{chip_limits, journal_of}
use Rattle.journal_steps.specs.declared.Journal.{Journal}
use Rattle.journal_start.specs.Starting.{Unfit}
use Rattle.journal_start.specs.Stages.{At, StageFits, reading_of, taken, wanted}
use Rattle.journal_start.specs.declared.Stage.{Stage}
use Rattle.journal_start.specs.declared.Stage.TheVariants.{Unread, OneCommit, Reading, Replaying, Ready}
use Rattle.journal_start.proofs.Follows.{Follows, asked, comes_to, goes_on, not_refused, open_still}
use Rattle.session.specs.Acts.{Woken}
use Rattle.session.specs.declared.Session.{Session}
use Rattle.driver.specs.Played.{Started}
use Rattle.driver.proofs.Starts.{Bounded, bounded, fewer, some_left, unread_pages, wanted_on}

-- a page is wanted by a stage, under some limits
abbrev pub Wanted : Limits → Stage → ℕ → Type 0
Wanted l s k = (can : ℕ → Bool) (h : House) → Some k ≡ wanted (limits_mean can l) (reading_of (limits_mean can l) s h)

-- the page that is read is the one that was asked for
asked_page : (d : Chip) (m : Memory) (s : Stage) (k : ℕ) → Some k ≡ wanted (stage m) (reading_of (stage m) s (house m)) → d k ≡ asked d m s
asked_page d m Unread k e = ap d (cc)
asked_page d m (OneCommit o) k e = ap d (cc)
asked_page d m (Reading u n) k e = ap d (cc)
asked_page d m (Replaying u n) k e = ap d (cc)
asked_page d m (Ready j) k e = let z : ◌≡◌ {A = ℕ} 0 1 = cc in absurd (omega arith)

module _ (d : Chip) (m : Memory) (s : Stage) (k : ℕ) (sound : Sound m) (fits : StageFits m s) (met : Follows d m s) (w : Wanted m.limits s k) where
  pub on_chip : (n : ℕ) → room_for (chip_limits m.limits) ≤ n → k < 16 * n
  on_chip n h = omega (arith, wanted_on m.limits s (house m) k fits.ranges (w whole (house m)))

  module _ (p : Page) (e : p ≡ d k) (n : Memory) (lent : Lent m n) where
    right_page : p ≡ asked d m s
    right_page = e ∙ asked_page d m s k (w stage_calls (house m))

    -- a chip that reads as calls is not refused
    pub no_refusal : Unfit (stage m) (reading_of (stage m) s (house m)) p → (ts : List Call) → Reads (stage n) page_bytes d ts → ⊥
    no_refusal bad ts r =
        not_refused d _ m s p sound fits (subst (λ (l : Limits). Reads (limits_mean stage_calls l) page_bytes d ts) lent.limits r) right_page met bad

    pub page_on : (t : Stage) → At m n t (taken (stage m) (reading_of (stage m) s (house m)) p) → Follows d n t
    page_on t at = goes_on d m n s t p sound fits lent right_page at met

    pub page_less : (t : Stage) → At m n t (taken (stage m) (reading_of (stage m) s (house m)) p) → unread_pages (stage n) (reading_of (stage n) t (house n)) < unread_pages (stage m) (reading_of (stage m) s (house m))
    page_less t at =
        let v = reading_of (stage m) s (house m) in
        let o = open_still m s fits.ranges in
        let b = subst (Bounded (stage m)) at.reading (subst (λ (l : Limits). Bounded (limits_mean stage_calls l) (reading_of (limits_mean stage_calls l) t (house n))) lent.limits (bounded stage_calls n.limits t (house n) at.fits.ranges)) in
        let f = fewer (stage m) v p (some_left (stage m) s (house m) k o (w stage_calls (house m))) o b in
        subst (λ (l : Limits). unread_pages (limits_mean stage_calls l) (reading_of (limits_mean stage_calls l) t (house n)) < unread_pages (stage m) v) (sym lent.limits) (subst (λ x. unread_pages (stage m) x < unread_pages (stage m) v) (sym at.reading) f)

-- when none is wanted all is read
pub none_left : (l : Limits) (s : Stage) (h : House) → None ≡ wanted (limits_mean whole l) (reading_of (limits_mean whole l) s h) → ((j : Journal) → s ≡ Ready j → ⊥) → ⊥
none_left l Unread h e q = let z : ◌≡◌ {A = ℕ} 0 1 = cc in omega arith
none_left l (OneCommit o) h e q = let z : ◌≡◌ {A = ℕ} 0 1 = cc in omega arith
none_left l (Reading u n) h e q = let z : ◌≡◌ {A = ℕ} 0 1 = cc in omega arith
none_left l (Replaying u n) h e q = let z : ◌≡◌ {A = ℕ} 0 1 = cc in omega arith
none_left l (Ready j) h e q = q j refl

-- so memory and the journal that was found are the program's start
pub started : (d : Chip) (m : Memory) (j : Journal) (s : Session) → Sound m → StageFits m (Ready j) → Follows d m (Ready j) → Woken j s → Started d m s
started d m j s sound fits met w = record {
  start = ap (λ (k : Journal). journal_of (stage m) k (house m)) w.journal ∙ comes_to d m j met;
  ready = w.ready m sound fits.holds fits.ranges;
  rests = w.rests;
}
