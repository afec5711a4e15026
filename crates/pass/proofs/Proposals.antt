-- What a proposal shows, for passes that propose one node in place of another.
use Rattle.std.proofs.Common.{◌≡◌, ℕ, List, [], ◌∷◌, Some, None, Option, refl, ◌∙◌, subst, arith}
use Rattle.std.proofs.lemmas.List.{append-nil}
use Rattle.std.proofs.lemmas.Option.{none-some}
use Rattle.script.specs.declared.node.Middle.{Middle}
use Rattle.script.specs.declared.node.Last.{Last}
use Rattle.script.specs.Run.{File, Words, Fit, step, puts, leaves}
use Rattle.pass.specs.Edges.{Names}
use Rattle.pass.specs.Forward.{MiddleAgrees, LastAgrees}

-- none is no piece
pub no_piece : {T A : Type 0} (t : T) → None ≡ Some t → A
no_piece t q = absurd (none-some t q)

-- one node that does what m does
pub one_agrees : (m n : Middle) (P : File → Type 0) → Fit n → ((slots e : File) → Words slots → Words e → P e → (puts n e ≡ puts m e) × (step slots n e ≡ step slots m e)) → (ms : List Middle) → Some (n ∷ []) ≡ Some ms → MiddleAgrees m ms P
one_agrees m n P f h ms q =
    let same : n ∷ [] ≡ ms = cc in
    subst (λ (ns : List Middle). MiddleAgrees m ns P) same
    (record {
      few = omega arith;
      fit = (f, tt);
      put = λ slots e u w a. append-nil (puts n e) ∙ (h slots e u w a).0;
      registers = λ slots e u w a. (h slots e u w a).1;
    })

-- one last node that leads where n leads
pub one_last_agrees : (n k : Last) (P : File → Type 0) → ((b : ℕ) → Names k b → Names n b) → ((e : File) → Words e → P e → leaves k e ≡ leaves n e) → (ms : List Middle) (j : Last) → ◌≡◌ {A = Option (List Middle × Last)} (Some ([], k)) (Some (ms, j)) → LastAgrees n ms j P
one_last_agrees n k P names h ms j q =
    let same : ◌≡◌ {A = List Middle × Last} ([], k) (ms, j) = cc in
    subst (λ (t : List Middle × Last). LastAgrees n t.0 t.1 P) same
    (record {
      few = omega arith;
      fit = tt;
      named = names;
      put = λ slots e u w a. refl;
      registers = λ slots e u w a. refl;
      place = λ slots e u w a. h e w a;
    })
