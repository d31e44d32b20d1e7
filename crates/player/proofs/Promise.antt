-- The main promise of a run, from what was done on the chip.
use Rattle.std.proofs.Common.{◌≡◌, ℕ, zero, suc, ◌+◌, ◌≤◌, true, ◌⊎◌, List, [], ◌∷◌, ◌++◌, length, take, sym, refl, ap, ◌∙◌, subst, inl, inr, append-nil, Ok, Err, arith}
use Rattle.std.proofs.lemmas.List.{take_all}
use Rattle.meaning.specs.House.{House}
use Rattle.meaning.specs.Calls.{Answer, Call, Limits, after, answers, ran, new_house}
use Rattle.meaning.specs.Chip.{Chip}
use Rattle.journal.specs.Acts.{Act, write, wipe, say, all_done, LeftAfter, said}
use Rattle.meaning.specs.Promise.{GoodLimits, all_readable}
use Rattle.journal.specs.Programs.{acts}
use Rattle.journal.specs.Slots as slots
use Rattle.journal_rows.specs.Layout.{Reads, house, program}
use Rattle.journal_rows.specs.Bytes.{page_bytes}
use Rattle.journal_house.proofs.Right.{right_by_reading, same_answers, same_ran, same_readable}
use Rattle.store.specs.declared.Memory.{Memory}
use Rattle.every_call.specs.Stage.{stage}
use Rattle.session.specs.Acts.{state}
use Rattle.session.specs.declared.Session.{Session}
use Rattle.driver.specs.Played.{Finished, Started}
use Rattle.driver.proofs.Runs.{left_later}
use Rattle.player.specs.Texts.{AllKept, CutOff, KeptPromise, RunEnded, TextPlayed, ended_by}
use Rattle.player.specs.declared.LineFault.{LineFault}
use Rattle.player.specs.declared.LineFault.TheVariants as line

-- the answers among the first acts are the first answers
said_front : (k : ℕ) (xs : List (Act Answer)) → said (take k xs) ≡ take (length (said (take k xs))) (said xs)
unfolding said
said_front zero xs = refl
said_front (suc k) [] = refl
said_front (suc k) (write j bs ∷ xs) = said_front k xs
said_front (suc k) (wipe b ∷ xs) = said_front k xs
said_front (suc k) (say a ∷ xs) = ap (λ r. a ∷ r) (said_front k xs)

-- all acts are done
left_all : (d e : Chip) (xs : List (Act Answer)) → e ≡ all_done d xs → LeftAfter d xs (length xs + 0) e
unfolding LeftAfter
left_all d e xs q = subst (λ r. LeftAfter d r (length xs + 0) e) (append-nil xs) (left_later d e xs [] 0 (λ j. ap (λ c. c j) q))

-- every call has an answer
answers_many : (l : Limits) (h : House) (cs : List Call) → length (answers l h cs) ≡ length cs
unfolding answers
answers_many l h [] = refl
answers_many l h (c ∷ cs) = ap suc (answers_many l (after l h c) cs)

module _ (l : Limits) (g : GoodLimits l) (d e : Chip) (before cs : List Call) (s : slots.Journal (house l)) (start : s ≡ (program page_bytes l).start d) (reads : Reads l page_bytes d before) (ok : all_readable cs ≡ true) where
  abbrev todo : List (Act Answer)
  todo = acts (program page_bytes l) s cs

  -- the answers are the house's
  answered : said todo ≡ answers l (ran l (new_house l) before) cs
  answered = ap (λ (x : slots.Journal (house l)). said (acts (program page_bytes l) x cs)) start ∙ (right_by_reading l g).right d before cs reads (same_readable l cs ∙ ok) ∙ same_answers l _ cs ∙ ap (λ h. answers l h cs) (same_ran l (new_house l) before)

  -- what is left reads so
  left_reads : (k : ℕ) → LeftAfter d todo k e → Reads l page_bytes e (before ++ take (length (said (take k todo))) cs) ⊎ Reads l page_bytes e (before ++ take (suc (length (said (take k todo)))) cs)
  left_reads k q =
      subst (λ (x : slots.Journal (house l)). Reads l page_bytes e (before ++ take (length (said (take k (acts (program page_bytes l) x cs)))) cs) ⊎ Reads l page_bytes e (before ++ take (suc (length (said (take k (acts (program page_bytes l) x cs))))) cs)) (sym start)
      ((right_by_reading l g).kept d e before cs k reads (same_readable l cs ∙ ok) (subst (λ (x : slots.Journal (house l)). LeftAfter d (acts (program page_bytes l) x cs) k e) start q))

  pub kept_promise : (ts us : List Answer) → CutOff d ts todo e us → KeptPromise l before cs ts e us
  kept_promise ts us c = record {
    heard = length (said (take c.at todo));
    given = c.heard ∙ ap (λ r. ts ++ r) (said_front c.at todo ∙ ap (take (length (said (take c.at todo)))) answered);
    reads = left_reads c.at c.left;
  }

  pub all_kept : (ts us : List Answer) → Finished d ts todo e us true → AllKept l before cs ts e us
  all_kept ts us f = record {
    given = f.1 ∙ ap (λ r. ts ++ r) answered;
    reads = go (left_reads (length todo + 0) (left_all d e todo f.0));
  }
    where
      many : length (said (take (length todo + 0) todo)) ≡ length cs
      many =
          let z : length todo ≤ length todo + 0 = omega arith in
          ap (λ r. length (said r)) (take_all (length todo + 0) todo z) ∙ ap length answered ∙ answers_many l _ cs

      go : Reads l page_bytes e (before ++ take (length (said (take (length todo + 0) todo))) cs) ⊎ Reads l page_bytes e (before ++ take (suc (length (said (take (length todo + 0) todo)))) cs) → Reads l page_bytes e (before ++ cs)
      go (inl r) = let z : length cs ≤ length (said (take (length todo + 0) todo)) = omega (arith, many) in subst (λ (v : List Call). Reads l page_bytes e (before ++ v)) (take_all (length (said (take (length todo + 0) todo))) cs z) r
      go (inr r) = let z : length cs ≤ suc (length (said (take (length todo + 0) todo))) = omega (arith, many) in subst (λ (v : List Call). Reads l page_bytes e (before ++ v)) (take_all (suc (length (said (take (length todo + 0) todo)))) cs z) r

-- what a text that was played to its end keeps, and one that was cut off
pub ended : (m : Memory) (s : Session) (cs : List Call) (d e : Chip) (ts us : List Answer) → Started d m s → TextPlayed s m cs d ts e us (Ok tt) → RunEnded (stage m) cs d ts e us (Ok tt)
ended m s cs d e ts us b t = λ before reads ok. all_kept (stage m) b.ready.sound.limits d e before cs (state s m) b.start reads ok ts us t

pub cut : (m : Memory) (s : Session) (cs : List Call) (d e : Chip) (ts us : List Answer) (fault : LineFault) → Started d m s → TextPlayed s m cs d ts e us (Err fault) → RunEnded (stage m) cs d ts e us (Err (ended_by fault))
cut m s cs d e ts us line.PowerFailed b t = λ before reads ok. kept_promise (stage m) b.ready.sound.limits d e before cs (state s m) b.start reads ok ts us t
cut m s cs d e ts us line.NoMemory b t = λ before reads ok. kept_promise (stage m) b.ready.sound.limits d e before cs (state s m) b.start reads ok ts us t
