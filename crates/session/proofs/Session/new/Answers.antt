-- A session at rest, with a question for the call that it keeps.
use Rattle.std.proofs.Common.{◌≡◌, ℕ, List, [], ◌∷◌, sym, refl, ap, ◌∙◌, arith}
use Rattle.meaning.specs.Calls.{booking, call_number}
use Rattle.meaning.specs.Promise.{readable}
use Rattle.wire.specs.Bytes.{bytes_of, row_of}
use Rattle.wire.specs.Rows.{encoded, decoded, in_bytes}
use Rattle.wire.proofs.Back.{calls_come_back}
use Rattle.session.proofs.Session.new.Goals as goal

-- the bytes of the first question
first_bytes : encoded (booking 0) ≡ 9 ∷ 0 ∷ 0 ∷ 0 ∷ 0 ∷ []
unfolding encoded in_bytes row_of bytes_of call_number
first_bytes = refl

first_whole : encoded (decoded (9 ∷ 0 ∷ 0 ∷ 0 ∷ 0 ∷ [])) ≡ 9 ∷ 0 ∷ 0 ∷ 0 ∷ 0 ∷ []
unfolding readable call_number
first_whole = ap (λ (b : List ℕ). encoded (decoded b)) (sym first_bytes) ∙ ap encoded (calls_come_back (booking 0) (record { fits = refl; is_call = omega arith })) ∙ first_bytes

pub returns : goal.returns
returns c = record {
  journal = refl;
  rests = refl;
  ready = λ m sound idle fits. record { sound = sound; idle = idle; fits = fits; work = tt; listed = omega arith; length = omega arith; whole = first_whole };
}
