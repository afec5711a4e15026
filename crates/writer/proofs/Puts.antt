-- Writing a whole that falls into pieces, one after another.
use Rattle.std.proofs.Common.{◌≡◌, ℕ, ◌+◌, ◌<◌, ◌≤◌, List, [], ◌∷◌, ◌++◌, length, ℤ, Ok, Err, Result, sym, refl, ap, ◌∙◌, append_assoc, append-nil, arith, length-append}
use Rattle.std.specs.Result.{IsErr, IsOk}
use mathlib.Core.Logic.{◌⊎◌, inl, inr}
use Rattle.words.specs.declared.kind.Kind.{Kind}
use Rattle.words.specs.Words.{spaced}
use Rattle.script.specs.Limits.{most_bytes}
use Rattle.writer.specs.Wrote.{Wrote}

-- the page had old and has now; `left` is left of the whole
pub record Left (old whole now left : List ℕ) : Type 0 where
  pub splits : now ++ left ≡ old ++ whole

pub left_start : (old whole left : List ℕ) → left ≡ whole → Left old whole old left
left_start old whole left e = record { splits = ap (λ l. old ++ l) e }

module _ {old whole now left : List ℕ} (s : Left old whole now left) where
  -- a piece was written, and the rest is left
  pub left_more : (piece rest next : List ℕ) → left ≡ piece ++ rest → next ≡ now ++ piece → Left old whole next rest
  left_more piece rest next e w =
      record { splits = ap (λ l. l ++ rest) w ∙ append_assoc now piece rest ∙ ap (λ l. now ++ l) (sym e) ∙ s.splits }

  -- a piece did not fit, so the whole does not
  pub left_full : {A E : Type 0} (r : Result A E) (piece rest next : List ℕ) → IsErr r → left ≡ piece ++ rest → most_bytes < length now + length piece → Wrote r old whole next
  left_full (Ok done) piece rest next x e w = absurd (cc)
  left_full (Err full) piece rest next x e w =
      omega (arith, w, ap length s.splits, ap length e, length-append now left, length-append old whole, length-append piece rest)

  -- what is left was written at once, or did not fit
  pub left_last : {A E : Type 0} (r : Result A E) (next : List ℕ) → Wrote r now left next → Wrote r old whole next
  left_last (Ok done) next w = w ∙ s.splits
  left_last (Err full) next w = omega (arith, w, ap length s.splits, length-append now left, length-append old whole)

  -- nothing is left
  pub left_none : left ≡ [] → now ≡ old ++ whole
  left_none e = sym (append-nil now) ∙ ap (λ l. now ++ l) (sym e) ∙ s.splits

-- where there is room for the whole, it is written
pub wrote_all : {A E : Type 0} (r : Result A E) (old whole new : List ℕ) → length old + length whole ≤ most_bytes → Wrote r old whole new → IsOk r
wrote_all (Ok done) old whole new room w = refl
wrote_all (Err full) old whole new room w = absurd (omega (arith, room, w))

-- the words end with the kinds or with the numbers
pub spaced_end : (ks : List Kind) (vs : List ℤ) → (ks ≡ []) ⊎ (vs ≡ []) → spaced ks vs ≡ []
spaced_end [] vs e = refl
spaced_end (k ∷ ks) [] e = refl
spaced_end (k ∷ ks) (v ∷ vs) (inl e) = absurd (cc)
spaced_end (k ∷ ks) (v ∷ vs) (inr e) = absurd (cc)
