-- What is proved of the house on a chip; and the promise of the crate journal, with its reading of chips as a part of it.
use Rattle.std.proofs.Common.{◌≡◌, ℕ, suc, ◌+◌, ◌≤◌, Bool, List, [], ◌∷◌, length, refl, ap, ◌∙◌, subst}
use Rattle.meaning.specs.House.{House}
use Rattle.meaning.specs.Calls.{Call, Limits, after, answers, ran, new_house}
use Rattle.meaning.specs.Promise.{GoodLimits, all_readable, room_for}
use Rattle.journal.specs.Programs.{IsTheHouse, Right}
use Rattle.journal.specs.Machine as machine
use Rattle.journal.specs.Slots.{longest, looks}
use Rattle.journal.proofs.Slots.{slots, starts_fast, commits_tell, few_acts, in_order}
use Rattle.journal.proofs.Plan.{planned}
use Rattle.journal.proofs.Start.{started}
use Rattle.journal_rows.specs.Layout.{house, slot_blocks, ring_blocks, head, pages, rows, program, Reads}
use Rattle.journal_rows.specs.Bytes.{page_bytes}
use Rattle.journal_house.specs.Right.{RightByReading, FewPages, ByPlan, ByPage, KnownChip, CallsFast, Rises, KeptHouse}
use Rattle.journal_house.proofs.Checkpoint.{checkpoint_pages}
use Rattle.journal_house.proofs.Number.{by_number}
use Rattle.journal_house.proofs.Laws.{laws, room_is, roomy}

-- THE MAIN PROMISE, its reading named
pub right_by_reading : RightByReading
right_by_reading l g = slots (house l) (slot_blocks l) (ring_blocks l) (rows l page_bytes) (laws l g) (room_for l) (room_is l).0 (room_is l).1

-- what the journal says of any machine is, of this house, what the meaning says
pub same_readable : (l : Limits) (cs : List Call) → machine.all_readable (house l) cs ≡ all_readable cs
unfolding all_readable machine.all_readable
same_readable l [] = refl
same_readable l (c ∷ cs) = rw (same_readable l cs)

pub same_ran : (l : Limits) (h : House) (cs : List Call) → machine.ran (house l) h cs ≡ ran l h cs
unfolding ran machine.ran
same_ran l h [] = refl
same_ran l h (c ∷ cs) = same_ran l (after l h c) cs

pub same_answers : (l : Limits) (h : House) (cs : List Call) → machine.answers (house l) h cs ≡ answers l h cs
unfolding answers machine.answers
same_answers l h [] = refl
same_answers l h (c ∷ cs) = rw (same_answers l (after l h c) cs)

-- the program is the house, however often power fails
pub is_the_house : (l : Limits) → GoodLimits l → IsTheHouse l (program page_bytes l)
is_the_house l g =
    let w = right_by_reading l g in
    record {
      Reads = Reads l page_bytes;
      new = w.new;
      care = λ d ts cs r ok. w.care d ts cs r (same_readable l cs ∙ ok);
      right = λ d ts cs r ok. w.right d ts cs r (same_readable l cs ∙ ok) ∙ same_answers l _ cs ∙ ap (λ h. answers l h cs) (same_ran l (new_house l) ts);
      kept = λ d e ts cs k r ok t. w.kept d e ts cs k r (same_readable l cs ∙ ok) t;
    }

-- THE PROMISE, for all limits and whatever calls the house can take, those of the first stage and all calls among them. It speaks of all readings of chips, which no contract can: so it
-- stands here as a term that is checked
pub right : (can : ℕ → Bool) → Right can (program page_bytes)
unfolding Right
right can l g e = is_the_house l g

-- a start looks at few pages
pub few_pages : FewPages
few_pages l g =
    let w = starts_fast (house l) (slot_blocks l) (ring_blocks l) (rows l page_bytes) (laws l g) (room_for l) (room_is l).0 (room_is l).1 in
    record {
      few = λ d ts r. subst (λ h. length (looks (house l) (slot_blocks l) (ring_blocks l) (rows l page_bytes) d) ≤ suc (pages (head h)) + longest (pages (head h)) + 2) (same_ran l (new_house l) ts) (rw (checkpoint_pages (machine.ran (house l) (new_house l) ts)) (w.few d _ r));
      no_more = w.no_more;
    }

-- a call goes one act at a time, and a start one page at a time
pub by_plan : ByPlan
by_plan l = planned (house l) (slot_blocks l) (ring_blocks l) (rows l page_bytes)

pub by_page : ByPage
by_page l = started (house l) (slot_blocks l) (ring_blocks l) (rows l page_bytes)

-- nothing but a commit record of these limits stands on the first page of a slot
pub known_chip : KnownChip
known_chip l g = commits_tell (house l) (slot_blocks l) (ring_blocks l) (rows l page_bytes) (laws l g) (room_for l) (room_is l).0 (room_is l).1

-- a call does few acts
pub calls_fast : CallsFast
calls_fast l g = few_acts (house l) (slot_blocks l) (ring_blocks l) (rows l page_bytes) (laws l g) (room_for l) (room_is l).0 (room_is l).1

-- pages of a block are written in rising order
pub rises : Rises
rises l g = in_order (house l) (slot_blocks l) (ring_blocks l) (rows l page_bytes) (laws l g) (room_for l) (room_is l).0 (room_is l).1

-- all of it
pub kept_house : KeptHouse
kept_house = record { right = right_by_reading; fast = few_pages; by_plan = by_plan; by_page = by_page; known = known_chip; by_number = by_number; quick = calls_fast; rises = rises; room = roomy }
