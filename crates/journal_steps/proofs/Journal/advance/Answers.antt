-- One page more in the log where it has room, else a checkpoint.
use Rattle.std.proofs.Common.{◌≡◌, Bool, true, false, sym, ap, ◌∙◌, subst, arith}
use Rattle.std.proofs.lemmas.Bool.{ltb-true, and_parts}
use Rattle.meaning.specs.Lines.{pick}
use Rattle.journal.specs.Slots.{longest}
use Rattle.journal_steps.specs.Steps.{WorkFits, chip_limits}
use Rattle.journal_steps.specs.declared.Work.TheVariants as work
use Rattle.journal_steps.proofs.Advances.{logged, checkpointed}
use Rattle.journal_steps.proofs.Ranges.{log_short, most_few}
use Rattle.journal_steps.proofs.Journal.advance.Goals as goal
use Rattle.journal_steps.proofs.Journal.advance.Goals.{then-self, else-self}

pub has_room-requires : goal.has_room-requires
has_room-requires c = omega (arith, most_few (chip_limits c.args.layout.now.limits) c.args.layout.now.in_range, c.requires.fits.pages)

pub returns-then-has_room : goal.returns-then-has_room
returns-then-has_room c =
    let l = chip_limits c.args.layout.now.limits in
    let j = c.args.self.now in
    let room = sym c.has_room.ensures ∙ c.if-has_room.true in
    let less = ltb-true j.used (longest j.pages) (and_parts _ _ room).1 in
    record {
      advanced = logged c.args.layout.now.limits c.args.pages j c.place-place.result room c.place-place.ensures.place;
      fits = record { begins = c.requires.fits.begins; used = omega (arith, less, log_short l j.pages c.requires.fits.pages); pages = c.requires.fits.pages };
      work = c.place-place.ensures.within;
    }

pub returns : goal.returns
returns c =
    let l = chip_limits c.args.layout.now.limits in
    let j = c.args.self.now in
    let w : c.if-self.work ≡ pick j.committed work.Erasing work.Opening = elim c.if-self.branch [
      | then-self v ↦ v.work-is ∙ ap (λ (b : Bool). pick b work.Erasing work.Opening) (sym v.if-self.true)
      | else-self v ↦ v.work-is ∙ ap (λ (b : Bool). pick b work.Erasing work.Opening) (sym v.if-self.false)
    ] in
    record {
      advanced = checkpointed c.args.layout.now.limits c.args.pages j c.place-place.result c.other-self.result c.next-self.result c.if-self.work (sym c.has_room.ensures ∙ c.if-has_room.false) c.place-place.ensures.place c.other-self.ensures c.next-self.ensures w;
      fits = record { begins = c.place-place.ensures.within; used = omega arith; pages = c.requires.pages };
      work = subst (WorkFits c.args.layout.now.limits c.args.pages) (sym w) (either j.committed);
    }
  where
    either : (b : Bool) → WorkFits c.args.layout.now.limits c.args.pages (pick b work.Erasing work.Opening)
    either true = tt
    either false = tt
