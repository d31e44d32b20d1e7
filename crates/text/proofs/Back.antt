-- For every call that can be written in its fields, reading the line that is printed for it gives that call back.
use Rattle.std.proofs.Common.{◌≡◌, ℕ, ◌<◌, ◌≤◌, Bool, true, false, eqb, List, [], ◌∷◌, ◌++◌, length, get_or, sym, refl, ap, ◌∙◌, inl, inr, arith}
use Rattle.std.proofs.lemmas.Slice.Eq.{bytes_eq-Decides}
use Rattle.std.proofs.lemmas.Bool.{cases_Bool}
use Rattle.meaning.specs.Lines.{pick}
use Rattle.meaning.specs.Calls.{call_number}
use Rattle.meaning.specs.Promise.{all_fields}
use Rattle.protocol.proofs.Fields.{written}
use Rattle.protocol.proofs.Numbers.{each_call}
use Rattle.protocol.proofs.Wholes.{nothing_lost}
use Rattle.protocol.specs.Forms.{fields, listing, field_count, has_list, made}
use Rattle.scan.proofs.Back.{Each, spaced_ends, spaced_ends_line, numbers_back, list_back, space_word, space_rest, word_back, rest_back}
use Rattle.scan.specs.Words.{got, front, numbers_in, list_in, spaced}
use Rattle.scan.specs.declared.Kind.TheVariants as kind
use Rattle.text.specs.CallLines.{verbs, joint, tail_from, line_from, call_line, place_among, listing_in, rest_in, call_in, placed, ReadsBack}
use Rattle.text.proofs.Assembled.{list_go}
use Rattle.text.proofs.Listings.{behind_word, at_end}
use Rattle.text.proofs.Verbs.{known_word}

-- the words of lines: each is found where it stands, and is a word
pub record Verb (k : ℕ) : Type 0 where
  pub found : place_among (get_or verbs k []) verbs ≡ k
  pub some : 0 < length (get_or verbs k [])
  pub whole : Each kind.Letter (get_or verbs k [])

pub verb_is : (k : ℕ) → k ≤ 10 → Verb k
unfolding place_among
verb_is =
    each_call Verb
    (record { found = refl; some = omega arith; whole = (refl, (refl, (refl, (refl, tt)))) })
    (record { found = refl; some = omega arith; whole = (refl, (refl, (refl, (refl, tt)))) })
    (record { found = refl; some = omega arith; whole = (refl, (refl, (refl, (refl, tt)))) })
    (record { found = refl; some = omega arith; whole = (refl, (refl, (refl, tt))) })
    (record { found = refl; some = omega arith; whole = (refl, (refl, (refl, (refl, (refl, (refl, tt)))))) })
    (record { found = refl; some = omega arith; whole = (refl, (refl, (refl, (refl, (refl, (refl, tt)))))) })
    (record { found = refl; some = omega arith; whole = (refl, (refl, (refl, (refl, (refl, tt))))) })
    (record { found = refl; some = omega arith; whole = (refl, (refl, (refl, (refl, tt)))) })
    (record { found = refl; some = omega arith; whole = (refl, (refl, (refl, (refl, (refl, tt))))) })
    (record { found = refl; some = omega arith; whole = (refl, (refl, (refl, (refl, (refl, (refl, (refl, tt))))))) })
    (record { found = refl; some = omega arith; whole = (refl, (refl, (refl, tt))) })

-- the words before lists
record Joint (w : List ℕ) : Type 0 where
  some : 0 < length w
  whole : Each kind.Letter w

joint_is : (k : ℕ) → Joint (joint k)
joint_is k = go (eqb k 0) (eqb k 5)
  where
    go : (s t : Bool) → Joint (pick s (108 ∷ 105 ∷ 109 ∷ 105 ∷ 116 ∷ 115 ∷ []) (pick t (116 ∷ 111 ∷ []) (111 ∷ 110 ∷ [])))
    go true t = record { some = omega arith; whole = (refl, (refl, (refl, (refl, (refl, (refl, tt)))))) }
    go false true = record { some = omega arith; whole = (refl, (refl, tt)) }
    go false false = record { some = omega arith; whole = (refl, (refl, tt)) }

-- behind the numbers a word ends
tail_ends : (k : ℕ) (list : List ℕ) → front kind.Letter (tail_from k list) ≡ 0
unfolding front
tail_ends k list = go (has_list k)
  where
    go : (t : Bool) → front kind.Letter (pick t ((32 ∷ joint k) ++ spaced list) []) ≡ 0
    go true = refl
    go false = refl

-- the list is read back
listed_back : (k : ℕ) (list : List ℕ) → length list ≤ 255 → all_fields list ≡ true → has_list k ≡ true → listing_in k (tail_from k list) ≡ got list []
listed_back k list n e h =
    let j = joint_is k in
    let ends = spaced_ends_line list in
    let tail : tail_from k list ≡ 32 ∷ (joint k ++ spaced list) = ap (λ (t : Bool). pick t ((32 ∷ joint k) ++ spaced list) []) h in
    let w = space_word (joint k ++ spaced list) ∙ word_back (joint k) (spaced list) j.some j.whole ends in
    let r = space_rest (joint k ++ spaced list) ∙ rest_back (joint k) (spaced list) j.some j.whole ends in
    ap (listing_in k) tail
    ∙ behind_word k (32 ∷ (joint k ++ spaced list)) h ((bytes_eq-Decides _ (joint k)).1 w)
    ∙ ap (list_in 255) r
    ∙ list_back 255 list n e

unlisted_back : (k : ℕ) (list : List ℕ) → list ≡ [] → has_list k ≡ false → listing_in k (tail_from k list) ≡ got list []
unfolding front
unlisted_back k list u h =
    let tail : tail_from k list ≡ [] = ap (λ (t : Bool). pick t ((32 ∷ joint k) ++ spaced list) []) h in
    ap (listing_in k) tail ∙ at_end k [] h refl ∙ ap (λ l. got l []) (sym u)

listing_back : (k : ℕ) (list : List ℕ) → length list ≤ 255 → all_fields list ≡ true → (has_list k ≡ false → list ≡ []) → listing_in k (tail_from k list) ≡ got list []
listing_back k list n e u = elim (cases_Bool (has_list k)) [ inl h ↦ listed_back k list n e h | inr h ↦ unlisted_back k list (u h) h ]

call_back : (k : ℕ) (fs list : List ℕ) → k ≤ 10 → length fs ≡ field_count k → all_fields fs ≡ true → length list ≤ 255 → all_fields list ≡ true → (has_list k ≡ false → list ≡ []) →
    call_in (line_from k fs list) ≡ got (made k fs list) []
unfolding line_from
call_back k fs list h len e n f u =
    let v = verb_is k h in
    let tail = tail_from k list in
    let ends = spaced_ends fs tail (tail_ends k list) in
    let w = word_back (get_or verbs k []) (spaced fs ++ tail) v.some v.whole ends in
    let r = rest_back (get_or verbs k []) (spaced fs ++ tail) v.some v.whole ends in
    known_word (get_or verbs k [] ++ (spaced fs ++ tail)) k h (ap (λ x. place_among x verbs) w ∙ v.found)
    ∙ ap (rest_in k) r
    ∙ list_go k (spaced fs ++ tail) fs tail list (ap (λ m. numbers_in m (spaced fs ++ tail)) (sym len) ∙ numbers_back fs tail e (tail_ends k list)) (listing_back k list n f u)

pub reads_back : ReadsBack
reads_back c h e =
    let k = nothing_lost c h in
    let w = written c e in
    ap (placed (length (call_line c))) (call_back (call_number c) (fields c) (listing c) h k.counted w.numbers w.count w.list k.unlisted) ∙ k.back
