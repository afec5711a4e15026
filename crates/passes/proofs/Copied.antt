-- What makes the pass of copies sound. The laws of its lattice are in specs/CopiesLaws.antt.
use Rattle.std.specs.Prelude.{◌≡◌, ℕ, ◌<◌, Bool, true, false, cond, List, [], ◌∷◌, length, replicate, ℤ, pos, Some, None, Option, ◌==◌, ◌≢◌, slice_set, refl}
use Rattle.std.proofs.Common.{sym, ap, subst, ◌∙◌, ⊎_elim, arith, length-set}
use Rattle.std.proofs.lemmas.List.{get_or-replicate}
use Rattle.std.proofs.lemmas.Bool.{cases_eq, eqb-true, eqb-false, cond_both, cond-true}
use Rattle.script.specs.Arithmetic.{computed, same}
use Rattle.script.specs.Limits.{registers}
use Rattle.script.specs.Run.{File, zeros, standing, ended, with_register, step}
use Rattle.script.specs.declared.register.Register.{Register}
use Rattle.script.specs.declared.node.Operation.{Operation}
use Rattle.script.specs.declared.node.Middle.{Middle}
use Rattle.script.specs.declared.node.Middle.TheVariants.{Set, Mov, Compute, Get, Put}
use Rattle.script.specs.declared.node.Last.{Last}
use Rattle.script.specs.declared.node.Last.TheVariants.{Go, If, End}
use Rattle.script.proofs.Registers.{register_same, register_other}
use Rattle.pass.specs.declared.lattice.Lattice.{Ghosts as LatticeOf}
use Rattle.pass.specs.Forward.{ForwardLaws, MiddleAgrees, LastAgrees}
use Rattle.pass.proofs.Rows.{get_or_set_at}
use Rattle.pass.proofs.Proposals.{no_piece, one_agrees, one_last_agrees}
use Rattle.passes.specs.declared.copies.Copies.{Copies}
use Rattle.passes.specs.declared.copies.PlainSources.{PlainSources}
use Rattle.passes.specs.Sources.{Row, source, well, without, killed, moved, row_after, source_of}
use Rattle.passes.specs.Copies.{Valid, Cautious, Admits, how_many, none, meet, after, along, mov_from, compute_from, put_from, if_from, end_from, from_sources, last_from_sources, in_place, in_place_last}
use Rattle.passes.proofs.Links.{killed_at, length_killed, killed_well, moved_well, register_of_some}

-- ---- admission

abbrev Holds : Row → File → Type 0
Holds r e = (i : ℕ) → i < registers → (s : ℕ) → source r i ≡ Some s → e i ≡ e s

without_some : (d : ℕ) (o : Option ℕ) (s : ℕ) → without d o ≡ Some s → (s ≢ d) × (o ≡ Some s)
without_some d None s q = no_piece s q
without_some d (Some t) s q = by_test (t == d) refl q
  where
    by_test : (b : Bool) → (t == d) ≡ b → cond b None (Some t) ≡ Some s → (s ≢ d) × (Some t ≡ Some s)
    by_test true e q = no_piece s q
    by_test false e q = let u : t ≡ s = cc in (λ z. eqb-false t d e (u ∙ z), q)

spared_some : (i d : ℕ) (o : Option ℕ) (s : ℕ) → cond (i == d) None (without d o) ≡ Some s → (i ≢ d) × (s ≢ d) × (o ≡ Some s)
spared_some i d o s q = by_test (i == d) refl q
  where
    by_test : (b : Bool) → (i == d) ≡ b → cond b None (without d o) ≡ Some s → (i ≢ d) × (s ≢ d) × (o ≡ Some s)
    by_test true e q = no_piece s q
    by_test false e q = let w = without_some d o s q in (eqb-false i d e, w.0, w.1)

killed_holds : (r : Row) (d : ℕ) (e : File) (x : ℤ) → d < length r → Holds r e → Holds (killed r d) (with_register e d x)
killed_holds r d e x l a i h s q =
    let c = spared_some i d (source r i) s (sym (killed_at r d i l) ∙ q) in
    register_other e d x i c.0 ∙ a i h s c.2 ∙ sym (register_other e d x s c.1)

same_file : (e : File) (d b : ℕ) → d ≡ b → (i : ℕ) → with_register e d (e b) i ≡ e i
same_file e d b q i =
    ⊎_elim
    (λ (p : i ≡ d). ap (with_register e d (e b)) p ∙ register_same e d (e b) ∙ ap e (sym (p ∙ q)))
    (λ (p : i ≡ d → ⊥). register_other e d (e b) i p)
    (cases_eq i d)

moved_holds : (r : Row) (d b : ℕ) (e : File) → length r ≡ registers → d < registers → Holds r e → Holds (moved r d b) (with_register e d (e b))
moved_holds r d b e n l a =
    cond_both (d == b) r (slice_set (killed r d) d (Some b)) (λ z. Holds z (with_register e d (e b)))
    (λ t i h s q. let k = same_file e d b (eqb-true d b t) in k i ∙ a i h s q ∙ sym (k s))
    (λ t i h s q. given (eqb-false d b t) i h s (i == d) refl (sym (get_or_set_at (killed r d) d i (Some b) None (omega (arith, length_killed r d))) ∙ q))
  where
    given : (d ≢ b) → (i : ℕ) → i < registers → (s : ℕ) → (c : Bool) → (i == d) ≡ c → cond c (Some b) (source (killed r d) i) ≡ Some s → with_register e d (e b) i ≡ with_register e d (e b) s
    given other i h s true t q =
        let is : b ≡ s = cc in
        ap (with_register e d (e b)) (eqb-true i d t) ∙ register_same e d (e b) ∙ sym (register_other e d (e b) b (λ z. other (sym z))) ∙ ap (with_register e d (e b)) is
    given other i h s false t q = killed_holds r d e (e b) (omega arith) a i h s q

row_after_holds : (m : Middle) (r : Row) (slots e : File) → length r ≡ registers → Holds r e → Holds (row_after m r) (step slots m e)
row_after_holds (Set to value) r slots e l a = killed_holds r to.index e value (omega (arith, to.ok)) a
row_after_holds (Mov to from) r slots e l a = moved_holds r to.index from.index e l to.ok a
row_after_holds (Compute o to left right) r slots e l a = killed_holds r to.index e (computed o (e left.index) (e right.index)) (omega (arith, to.ok)) a
row_after_holds (Get to slot) r slots e l a = killed_holds r to.index e (slots slot.index) (omega (arith, to.ok)) a
row_after_holds (Put from) r slots e l a = a

killed_valid : (r : Row) (d : ℕ) → length r ≡ registers → d < registers → well r ≡ true → Valid (record { row = killed r d })
killed_valid r d l h w = record { all = length_killed r d ∙ l; good = killed_well r d (omega arith) w }

row_after_valid : (m : Middle) (r : Row) → length r ≡ registers → well r ≡ true → Valid (record { row = row_after m r })
row_after_valid (Set to value) r l w = killed_valid r to.index l to.ok w
row_after_valid (Mov to from) r l w =
    record {
      all = cond_both (to.index == from.index) r (slice_set (killed r to.index) to.index (Some from.index)) (λ z. length z ≡ registers) (λ q. l) (λ q. length-set _ _ _ ∙ length_killed r to.index ∙ l);
      good = moved_well r to.index from.index l w to.ok from.ok;
    }
row_after_valid (Compute o to left right) r l w = killed_valid r to.index l to.ok w
row_after_valid (Get to slot) r l w = killed_valid r to.index l to.ok w
row_after_valid (Put from) r l w = record { all = l; good = w }

-- what is shown of the fact after a node
at_after : (P : PlainSources → Type 0) (m : Middle) (f : PlainSources) → Valid f → P (record { row = row_after m f.row }) → P (after m f)
at_after P m f v h = subst P (sym (cond-true (well f.row) (record { row = row_after m f.row }) none v.good)) h

-- ---- proposals

-- a source holds what the register holds
abbrev Follows : Register → Option Register → (File → Type 0) → Type 0
Follows a o P = (s : Register) → o ≡ Some s → (e : File) → P e → e s.index ≡ e a.index

source_follows : (r : Row) (a : Register) → Follows a (source_of r a) (Holds r)
source_follows r a s q e h = sym (h a.index a.ok s.index (register_of_some (source r a.index) s q))

mov_agrees : (to from : Register) (P : File → Type 0) (o : Option Register) → Follows from o P → (ms : List Middle) → mov_from to o ≡ Some ms → MiddleAgrees (Mov to from) ms P
mov_agrees to from P None h ms q = no_piece ms q
mov_agrees to from P (Some a) h ms q = one_agrees (Mov to from) (Mov to a) P tt (λ slots e u w p. (refl, ap (with_register e to.index) (h a refl e p))) ms q

put_agrees : (from : Register) (P : File → Type 0) (o : Option Register) → Follows from o P → (ms : List Middle) → put_from o ≡ Some ms → MiddleAgrees (Put from) ms P
put_agrees from P None h ms q = no_piece ms q
put_agrees from P (Some a) h ms q = one_agrees (Put from) (Put a) P tt (λ slots e u w p. (ap (λ x. x ∷ []) (h a refl e p), refl)) ms q

-- arithmetic on registers that hold what left and right hold
module _ (o : Operation) (to left right : Register) (P : File → Type 0) where
  like : (a b : Register) → ((e : File) → P e → e a.index ≡ e left.index) → ((e : File) → P e → e b.index ≡ e right.index) → (ms : List Middle) → Some (Compute o to a b ∷ []) ≡ Some ms → MiddleAgrees (Compute o to left right) ms P
  like a b h k ms q = one_agrees (Compute o to left right) (Compute o to a b) P tt (λ slots e u w p. (refl, ap (with_register e to.index) (λ i. computed o (h e p i) (k e p i)))) ms q

  compute_agrees : (s t : Option Register) → Follows left s P → Follows right t P → (ms : List Middle) → compute_from o to left right s t ≡ Some ms → MiddleAgrees (Compute o to left right) ms P
  compute_agrees None None h k ms q = no_piece ms q
  compute_agrees None (Some b) h k ms q = like left b (λ e p. refl) (k b refl) ms q
  compute_agrees (Some a) None h k ms q = like a right (h a refl) (λ e p. refl) ms q
  compute_agrees (Some a) (Some b) h k ms q = like a b (h a refl) (k b refl) ms q

middle_agrees : (m : Middle) (r : Row) (ms : List Middle) → from_sources m r ≡ Some ms → MiddleAgrees m ms (Holds r)
middle_agrees (Set to value) r ms q = no_piece ms q
middle_agrees (Mov to from) r ms q = mov_agrees to from (Holds r) (source_of r from) (source_follows r from) ms q
middle_agrees (Compute o to left right) r ms q = compute_agrees o to left right (Holds r) (source_of r left) (source_of r right) (source_follows r left) (source_follows r right) ms q
middle_agrees (Get to slot) r ms q = no_piece ms q
middle_agrees (Put from) r ms q = put_agrees from (Holds r) (source_of r from) (source_follows r from) ms q

if_agrees : (test : Register) (then other : ℕ) (P : File → Type 0) (o : Option Register) → Follows test o P → (ms : List Middle) (j : Last) → if_from o then other ≡ Some (ms, j) → LastAgrees (If test then other) ms j P
if_agrees test then other P None h ms j q = no_piece (ms, j) q
if_agrees test then other P (Some a) h ms j q = one_last_agrees (If test then other) (If a then other) P (λ b n. n) (λ e w p. ap (λ x. cond (same x (pos 0)) (standing other) (standing then)) (h a refl e p)) ms j q

end_agrees : (from : Register) (P : File → Type 0) (o : Option Register) → Follows from o P → (ms : List Middle) (j : Last) → end_from o ≡ Some (ms, j) → LastAgrees (End from) ms j P
end_agrees from P None h ms j q = no_piece (ms, j) q
end_agrees from P (Some a) h ms j q = one_last_agrees (End from) (End a) P (λ b n. n) (λ e w p. ap ended (h a refl e p)) ms j q

last_agrees : (n : Last) (r : Row) (ms : List Middle) (j : Last) → last_from_sources n r ≡ Some (ms, j) → LastAgrees n ms j (Holds r)
last_agrees (Go target) r ms j q = no_piece (ms, j) q
last_agrees (If test then other) r ms j q = if_agrees test then other (Holds r) (source_of r test) (source_follows r test) ms j q
last_agrees (End from) r ms j q = end_agrees from (Holds r) (source_of r from) (source_follows r from) ms j q

no_sources : (e : File) → Holds (replicate registers None) e
no_sources e i h s q = no_piece s (sym (get_or-replicate registers i None None h) ∙ q)

abbrev sources : LatticeOf Copies PlainSources
sources = record { valid = λ p. Valid; cautious = λ p. Cautious; rank = λ p. how_many; origin = λ p. none; joined = λ p. meet }

pub forward : (p : Copies) → ForwardLaws sources p Admits after along in_place in_place_last
forward p =
    record {
      weaker = λ f g u v c e w a i h s q. a i h s (c i h s q);
      start_admits = no_sources zeros;
      after_valid = λ m t f v. at_after Valid m f v (row_after_valid m f.row v.all v.good);
      after_admits = λ m t f v slots e s w a. at_after (λ g. Admits g (step slots m e)) m f v (row_after_holds m f.row slots e v.all a);
      along_valid = λ n k b q f v. v;
      along_admits = λ n k f v e w a t. a;
      middle_agrees = λ m t f v ms q. middle_agrees m f.row ms (sym (cond-true (well f.row) (from_sources m f.row) None v.good) ∙ q);
      last_agrees = λ n f v ms j q. last_agrees n f.row ms j (sym (cond-true (well f.row) (last_from_sources n f.row) None v.good) ∙ q);
    }
