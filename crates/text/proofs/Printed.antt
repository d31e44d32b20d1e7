-- The line of a call from the parts that the code has of it.
use Rattle.std.proofs.Common.{◌≡◌, ℕ, Bool, true, false, List, [], ◌∷◌, ◌++◌, get_or, take, sym, ap, ◌∙◌, ap₂, append-nil}
use Rattle.meaning.specs.Lines.{pick}
use Rattle.protocol.specs.Forms.{TakenApart, call_of, field_count, has_list, listing}
use Rattle.protocol.specs.declared.Call.{Call}
use Rattle.scan.specs.Words.{spaced}
use Rattle.text.specs.CallLines.{verbs, joint, tail_from, line_from, call_line}

line_is : (c : Call) (k : ℕ) (fs ls : List ℕ) → TakenApart c k fs → call_line (call_of c ls) ≡ get_or verbs k [] ++ (spaced (take (field_count k) fs) ++ tail_from k (listing (call_of c ls)))
unfolding line_from
line_is c k fs ls t =
    ap₂ (λ n l. get_or verbs n [] ++ (spaced l ++ tail_from n (listing (call_of c ls)))) (sym (t.number_is ls)) (sym (t.fields_are ls))

pub line_listed : (c : Call) (k : ℕ) (fs ls : List ℕ) → TakenApart c k fs → has_list k ≡ true →
    get_or verbs k [] ++ (spaced (take (field_count k) fs) ++ ((32 ∷ joint k) ++ spaced ls)) ≡ call_line (call_of c ls)
line_listed c k fs ls t h =
    sym (line_is c k fs ls t
    ∙ ap₂ (λ (b : Bool) l. get_or verbs k [] ++ (spaced (take (field_count k) fs) ++ pick b ((32 ∷ joint k) ++ spaced l) [])) h (t.list_is ls h))

pub line_unlisted : (c : Call) (k : ℕ) (fs ls : List ℕ) → TakenApart c k fs → has_list k ≡ false → get_or verbs k [] ++ spaced (take (field_count k) fs) ≡ call_line (call_of c ls)
line_unlisted c k fs ls t h =
    sym (line_is c k fs ls t
    ∙ ap (λ (b : Bool). get_or verbs k [] ++ (spaced (take (field_count k) fs) ++ pick b ((32 ∷ joint k) ++ spaced (listing (call_of c ls))) [])) h
    ∙ ap (λ l. get_or verbs k [] ++ l) (append-nil (spaced (take (field_count k) fs))))
