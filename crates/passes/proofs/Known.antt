-- What makes the pass of constants sound. The laws of its lattice are in specs/ConstantsLaws.antt.
use Rattle.std.specs.Prelude.{◌≡◌, ℕ, ◌<◌, Bool, true, false, cond, ◌⊎◌, List, [], ℤ, pos, Some, None, Option, ◌==◌, ◌≢◌, refl}
use Rattle.std.proofs.Common.{sym, ap, subst, ◌∙◌, inl, inr, arith, length-set}
use Rattle.std.proofs.lemmas.Bool.{eqb-true, eqb-false, cond_both}
use Rattle.script.specs.Arithmetic.{computed, same}
use Rattle.script.specs.Limits.{registers}
use Rattle.script.specs.Run.{File, Fit, standing, with_register, step, puts}
use Rattle.script.specs.declared.register.Register.{Register}
use Rattle.script.specs.declared.node.Operation.{Operation}
use Rattle.script.specs.declared.node.Middle.{Middle}
use Rattle.script.specs.declared.node.Middle.TheVariants.{Set, Mov, Compute, Get, Put}
use Rattle.script.specs.declared.node.Last.{Last}
use Rattle.script.specs.declared.node.Last.TheVariants.{Go, If, End}
use Rattle.script.proofs.Fitting.{computed_fits}
use Rattle.script.proofs.Registers.{register_same, register_other}
use Rattle.pass.specs.declared.edge.Edge.{Edge}
use Rattle.pass.specs.declared.edge.Edge.TheVariants.{First, Second}
use Rattle.pass.specs.declared.lattice.Lattice.{Ghosts as LatticeOf}
use Rattle.pass.specs.Edges.{Takes}
use Rattle.pass.specs.Forward.{ForwardLaws, MiddleAgrees, LastAgrees}
use Rattle.pass.proofs.Proposals.{no_piece, one_agrees, one_last_agrees}
use Rattle.pass.proofs.Rows.{get_or_set_at}
use Rattle.passes.specs.declared.constants.Constants.{Constants}
use Rattle.passes.specs.declared.constants.Numbers.{Numbers}
use Rattle.passes.specs.Constants.{FitsIf, Valid, Cautious, Admits, how_many, all_zero, meet, known_as, becomes, combined, after, along, sets, in_place, goes, in_place_last}
use Rattle.passes.specs.ConstantsLaws.{zero_fits, zero_known}

-- ---- admission

combined_holds : (o : Operation) (a b : Option ℤ) (x y : ℤ) → ((k : ℤ) → a ≡ Some k → x ≡ k) → ((k : ℤ) → b ≡ Some k → y ≡ k) → (k : ℤ) → combined o a b ≡ Some k → computed o x y ≡ k
combined_holds o None b x y h l k q = no_piece k q
combined_holds o (Some s) None x y h l k q = no_piece k q
combined_holds o (Some s) (Some t) x y h l k q = (λ i. computed o (h s refl i) (l t refl i)) ∙ cc

combined_fits : (o : Operation) (a b : Option ℤ) → FitsIf (combined o a b)
combined_fits o None b = tt
combined_fits o (Some s) None = tt
combined_fits o (Some s) (Some t) = computed_fits o s t

module _ (f : Numbers) (d : ℕ) (o : Option ℤ) (h : d < registers) (v : Valid f) where
  known_after : (i : ℕ) → known_as (becomes f d o) i ≡ cond (i == d) o (known_as f i)
  known_after i = get_or_set_at f.row d i o None (omega (arith, v.all))

  becomes_valid : FitsIf o → Valid (becomes f d o)
  becomes_valid t =
      record {
        all = length-set f.row d o ∙ v.all;
        fits = λ i l. subst FitsIf (sym (known_after i)) (cond_both (i == d) o (known_as f i) FitsIf (λ q. t) (λ q. v.fits i l));
      }

  -- of a file that differs from an admitted one in d alone, which holds the number, if that is known
  becomes_admits : (e w : File) → ((k : ℤ) → o ≡ Some k → w d ≡ k) → ((i : ℕ) → (i ≢ d) → w i ≡ e i) → Admits f e → Admits (becomes f d o) w
  becomes_admits e w here else a i l k q = by_test (i == d) refl (sym (known_after i) ∙ q)
    where
      by_test : (b : Bool) → (i == d) ≡ b → cond b o (known_as f i) ≡ Some k → w i ≡ k
      by_test true t q = ap w (eqb-true i d t) ∙ here k q
      by_test false t q = else i (eqb-false i d t) ∙ a i l k q

written_admits : (f : Numbers) (d : ℕ) (o : Option ℤ) (e : File) (x : ℤ) → d < registers → Valid f → ((k : ℤ) → o ≡ Some k → x ≡ k) → Admits f e → Admits (becomes f d o) (with_register e d x)
written_admits f d o e x b v h a = becomes_admits f d o b v e (with_register e d x) (λ y q. register_same e d x ∙ h y q) (register_other e d x) a

after_valid : (m : Middle) → Fit m → (f : Numbers) → Valid f → Valid (after m f)
after_valid (Set to value) t f v = becomes_valid f to.index (Some value) to.ok v t
after_valid (Mov to from) t f v = becomes_valid f to.index (known_as f from.index) to.ok v (v.fits from.index from.ok)
after_valid (Compute o to left right) t f v = becomes_valid f to.index (combined o (known_as f left.index) (known_as f right.index)) to.ok v (combined_fits o (known_as f left.index) (known_as f right.index))
after_valid (Get to slot) t f v = becomes_valid f to.index None to.ok v tt
after_valid (Put from) t f v = v

along_valid : (n : Last) (k : Edge) (f : Numbers) → Valid f → Valid (along n k f)
along_valid (Go target) k f v = v
along_valid (If test then other) First f v = v
along_valid (If test then other) Second f v = becomes_valid f test.index (Some (pos 0)) test.ok v zero_fits
along_valid (End from) k f v = v

after_admits : (m : Middle) (f : Numbers) → Valid f → (slots e : File) → Admits f e → Admits (after m f) (step slots m e)
after_admits (Set to value) f v slots e a = written_admits f to.index (Some value) e value to.ok v (λ y q. cc) a
after_admits (Mov to from) f v slots e a = written_admits f to.index (known_as f from.index) e (e from.index) to.ok v (a from.index from.ok) a
after_admits (Compute o to left right) f v slots e a =
    written_admits f to.index (combined o (known_as f left.index) (known_as f right.index)) e (computed o (e left.index) (e right.index)) to.ok v
    (combined_holds o (known_as f left.index) (known_as f right.index) (e left.index) (e right.index) (a left.index left.ok) (a right.index right.ok)) a
after_admits (Get to slot) f v slots e a = written_admits f to.index None e (slots slot.index) to.ok v (λ y q. no_piece y q) a
after_admits (Put from) f v slots e a = a

along_admits : (n : Last) (k : Edge) (f : Numbers) → Valid f → (e : File) → Admits f e → Takes n k e → Admits (along n k f) e
along_admits (Go target) k f v e a t = a
along_admits (If test then other) First f v e a t = a
along_admits (If test then other) Second f v e a t = becomes_admits f test.index (Some (pos 0)) test.ok v e e (λ y q. t ∙ cc) (λ i n. refl) a
along_admits (End from) k f v e a t = a

-- ---- proposals

-- a number that a node gives its register may be set there
set_agrees : (m : Middle) (to : Register) (P : File → Type 0) (o : Option ℤ) (x : File → ℤ) → ((e : File) → puts m e ≡ []) → ((slots e : File) → step slots m e ≡ with_register e to.index (x e)) → FitsIf o → ((e : File) → P e → (k : ℤ) → o ≡ Some k → x e ≡ k) → (ms : List Middle) → sets to o ≡ Some ms → MiddleAgrees m ms P
set_agrees m to P None x p s f h ms q = no_piece ms q
set_agrees m to P (Some k) x p s f h ms q =
    one_agrees m (Set to k) P f (λ slots e u w a. (sym (p e), ap (with_register e to.index) (sym (h e a k refl)) ∙ sym (s slots e))) ms q

middle_agrees : (m : Middle) (f : Numbers) → Valid f → (ms : List Middle) → in_place m f ≡ Some ms → MiddleAgrees m ms (Admits f)
middle_agrees (Set to value) f v ms q = no_piece ms q
middle_agrees (Mov to from) f v ms q =
    set_agrees (Mov to from) to (Admits f) (known_as f from.index) (λ e. e from.index) (λ e. refl) (λ slots e. refl) (v.fits from.index from.ok) (λ e a. a from.index from.ok) ms q
middle_agrees (Compute o to left right) f v ms q =
    set_agrees (Compute o to left right) to (Admits f) (combined o (known_as f left.index) (known_as f right.index)) (λ e. computed o (e left.index) (e right.index)) (λ e. refl) (λ slots e. refl) (combined_fits o (known_as f left.index) (known_as f right.index))
    (λ e a. combined_holds o (known_as f left.index) (known_as f right.index) (e left.index) (e right.index) (a left.index left.ok) (a right.index right.ok))
    ms q
middle_agrees (Get to slot) f v ms q = no_piece ms q
middle_agrees (Put from) f v ms q = no_piece ms q

one_of : (c : Bool) (b then other : ℕ) → b ≡ cond c other then → (b ≡ then) ⊎ (b ≡ other)
one_of true b then other q = inr q
one_of false b then other q = inl q

stands : (c : Bool) (then other : ℕ) → standing (cond c other then) ≡ cond c (standing other) (standing then)
stands true then other = refl
stands false then other = refl

one_place : (c : Bool) (then other : ℕ) → then ≡ other → standing then ≡ cond c (standing other) (standing then)
one_place true then other q = ap standing q
one_place false then other q = refl

module _ (test : Register) (then other : ℕ) (P : File → Type 0) where
  goes_agrees : (o : Option ℤ) → ((e : File) → P e → (k : ℤ) → o ≡ Some k → e test.index ≡ k) → (ms : List Middle) (j : Last) → goes then other o ≡ Some (ms, j) → LastAgrees (If test then other) ms j P
  goes_agrees None h ms j q = by_test (then == other) refl q
    where
      by_test : (b : Bool) → (then == other) ≡ b → cond {A = Option (List Middle × Last)} b (Some ([], Go then)) None ≡ Some (ms, j) → LastAgrees (If test then other) ms j P
      by_test true b q =
          one_last_agrees (If test then other) (Go then) P (λ b. inl) (λ e w a. one_place (same (e test.index) (pos 0)) then other (eqb-true then other b)) ms j q
      by_test false b q = no_piece (ms, j) q
  goes_agrees (Some k) h ms j q =
      one_last_agrees (If test then other) (Go (cond (same k (pos 0)) other then)) P (λ b. one_of (same k (pos 0)) b then other)
      (λ e w a. stands (same k (pos 0)) then other ∙ ap (λ z. cond (same z (pos 0)) (standing other) (standing then)) (sym (h e a k refl))) ms j q

last_agrees : (n : Last) (f : Numbers) → Valid f → (ms : List Middle) (j : Last) → in_place_last n f ≡ Some (ms, j) → LastAgrees n ms j (Admits f)
last_agrees (Go target) f v ms j q = no_piece (ms, j) q
last_agrees (If test then other) f v ms j q = goes_agrees test then other (Admits f) (known_as f test.index) (λ e a. a test.index test.ok) ms j q
last_agrees (End from) f v ms j q = no_piece (ms, j) q

abbrev numbers : LatticeOf Constants Numbers
numbers = record { valid = λ p. Valid; cautious = λ p. Cautious; rank = λ p. how_many; origin = λ p. all_zero; joined = λ p. meet }

pub forward : (p : Constants) → ForwardLaws numbers p Admits after along in_place in_place_last
forward p =
    record {
      weaker = λ f g u v c e w a i h k q. a i h k (c i h k q);
      start_admits = λ i h k q. let zero = zero_known i h in cc;
      after_valid = after_valid;
      after_admits = λ m t f v slots e s w a. after_admits m f v slots e a;
      along_valid = λ n k b q f v. along_valid n k f v;
      along_admits = λ n k f v e w a t. along_admits n k f v e a t;
      middle_agrees = λ m t f v ms q. middle_agrees m f v ms q;
      last_agrees = last_agrees;
    }
