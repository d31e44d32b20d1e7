-- The bytes of a call that was taken apart, with a list and without.
use Rattle.std.proofs.Common.{◌≡◌, ℕ, ◌+◌, ◌*◌, ◌≤◌, true, false, List, [], ◌∷◌, ◌++◌, length, take, sym, ap, ◌∙◌, subst, append-nil, arith, length-append}
use Rattle.meaning.specs.Calls.{call_number}
use Rattle.protocol.specs.Forms.{call_of, fields, listing, field_count, has_list, TakenApart}
use Rattle.protocol.specs.Verbs.{verb_number, verb_of}
use Rattle.protocol.specs.declared.verbs.Verb.{Verb}
use Rattle.protocol.specs.declared.Call.{Call}
use Rattle.protocol.proofs.Apart.{five_apart}
use Rattle.protocol.proofs.Numbers.{known}
use Rattle.protocol.proofs.Wholes.{nothing_lost}
use Rattle.wire.specs.Bytes.{row_of}
use Rattle.wire.specs.Rows.{in_bytes, encoded}
use Rattle.wire.proofs.Fields.{row_length}

-- every call of the code is one
pub is_call : (c : Call) (list : List ℕ) → call_number (call_of c list) ≤ 10
is_call c list = subst (λ k. k ≤ 10) ((five_apart c).number_is list) (known (verb_of c))

-- the bytes, by the parts
pub in_bytes_listed : (k : ℕ) (fs list : List ℕ) → true ≡ has_list k → in_bytes k fs list ≡ (k ∷ row_of 4 fs) ++ (length list ∷ row_of 4 list)
unfolding in_bytes
in_bytes_listed k fs list h = rw (sym h)

pub in_bytes_plain : (k : ℕ) (fs list : List ℕ) → false ≡ has_list k → in_bytes k fs list ≡ k ∷ row_of 4 fs
unfolding in_bytes
in_bytes_plain k fs list h = rw (sym h) (ap (λ x. k ∷ x) (append-nil (row_of 4 fs)))

by_parts : (c : Call) (k n : ℕ) (fs list : List ℕ) → TakenApart c k fs → n ≡ field_count k → encoded (call_of c list) ≡ in_bytes k (take n fs) (listing (call_of c list))
unfolding encoded
by_parts c k n fs list t e =
    let a : call_number (call_of c list) ≡ k = sym (t.number_is list) in
    let b : fields (call_of c list) ≡ take n fs = sym (t.fields_are list) ∙ ap (λ m. take m fs) (sym e) in
    ap (λ x. in_bytes x (fields (call_of c list)) (listing (call_of c list))) a ∙ ap (λ x. in_bytes k x (listing (call_of c list))) b

-- of a call of the code, with how long they are
pub record Plain (c : Call) (k n : ℕ) (fs list : List ℕ) : Type 0 where
  pub row : encoded (call_of c list) ≡ k ∷ row_of 4 (take n fs)
  pub long : length (encoded (call_of c list)) ≡ 1 + 4 * n
  pub unlisted : listing (call_of c list) ≡ []
  pub counted : length (take n fs) ≡ n

pub record Listed (c : Call) (k n : ℕ) (fs list : List ℕ) : Type 0 where
  pub row : encoded (call_of c list) ≡ (k ∷ row_of 4 (take n fs)) ++ (length list ∷ row_of 4 list)
  pub long : length (encoded (call_of c list)) ≡ 2 + 4 * n + 4 * length list
  pub listed : listing (call_of c list) ≡ list
  pub counted : length (take n fs) ≡ n

-- a call has as many numbers as its number says
counts : (c : Call) (k n : ℕ) (fs list : List ℕ) → TakenApart c k fs → n ≡ field_count k → length (take n fs) ≡ n
counts c k n fs list t e =
    ap (λ m. length (take m fs)) e ∙ (ap length (t.fields_are list) ∙ ((nothing_lost (call_of c list) (is_call c list)).counted ∙ (ap field_count (sym (t.number_is list)) ∙ sym e)))

-- a call taken apart by its verb
by_verb : (c : Call) (v : Verb) (fs : List ℕ) → v ≡ verb_of c → TakenApart c (verb_number (verb_of c)) fs → TakenApart c (verb_number v) fs
by_verb c v fs e t = rw e t

pub plain : (c : Call) (v : Verb) (n : ℕ) (fs list : List ℕ) → v ≡ verb_of c → TakenApart c (verb_number (verb_of c)) fs → n ≡ field_count (verb_number v) → false ≡ has_list (verb_number v) →
    Plain c (verb_number v) n fs list
plain c v n fs list is apart e h =
    let k : ℕ = verb_number v in
    let t = by_verb c v fs is apart in
    let r : encoded (call_of c list) ≡ k ∷ row_of 4 (take n fs) = by_parts c k n fs list t e ∙ in_bytes_plain k (take n fs) _ h in
    let l = counts c k n fs list t e in
    record {
      row = r;
      long = ap length r ∙ (let w = row_length 4 (take n fs) in omega arith);
      unlisted = (nothing_lost (call_of c list) (is_call c list)).unlisted (ap has_list (sym (t.number_is list)) ∙ sym h);
      counted = l;
    }

pub listed : (c : Call) (v : Verb) (n : ℕ) (fs list : List ℕ) → v ≡ verb_of c → TakenApart c (verb_number (verb_of c)) fs → n ≡ field_count (verb_number v) → true ≡ has_list (verb_number v) →
    Listed c (verb_number v) n fs list
listed c v n fs list is apart e h =
    let k : ℕ = verb_number v in
    let t = by_verb c v fs is apart in
    let own : listing (call_of c list) ≡ list = t.list_is list (sym h) in
    let r : encoded (call_of c list) ≡ (k ∷ row_of 4 (take n fs)) ++ (length list ∷ row_of 4 list) =
    by_parts c k n fs list t e ∙ (ap (λ x. in_bytes k (take n fs) x) own ∙ in_bytes_listed k (take n fs) list h) in
    let v = row_length 4 (take n fs) in let w = row_length 4 list in let l = counts c k n fs list t e in
    record {
      row = r;
      long = ap length r ∙ (length-append (k ∷ row_of 4 (take n fs)) (length list ∷ row_of 4 list) ∙ omega arith);
      listed = own;
      counted = l;
    }
