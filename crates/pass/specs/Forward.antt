-- What a forward pass must show, beyond its lattice.
--
--   MiddleAgrees m ms admitted     from every admitted file, the nodes ms do what the middle node m does
--   LastAgrees n ms k admitted     from every admitted file, the nodes ms and then k do what the last node n does
--   ForwardLaws ..                 what ties admission to the order, to the answers and to the pieces
--
-- Files and slots hold numbers of 32 bits, nodes set numbers of 32 bits, and facts are facts of the lattice: of
-- anything else nothing is asked.
use Rattle.std.specs.Prelude.{◌≡◌, ℕ, ◌≤◌, List, [], length, Some, Option}
use Rattle.std.specs.List.{AllByRecursion}
use Rattle.script.specs.declared.node.Middle.{Middle}
use Rattle.script.specs.declared.node.Last.{Last}
use Rattle.script.specs.Run.{File, Words, Fit, zeros, step, puts, through, leaves}
use Rattle.pass.specs.declared.edge.Edge.{Edge}
use Rattle.pass.specs.declared.lattice.Lattice.{Ghosts as LatticeOf}
use Rattle.pass.specs.Edges.{leads, Takes, Names}

pub record MiddleAgrees (m : Middle) (ms : List Middle) (admitted : File → Type 0) : Type 0 where
  pub few : length ms ≤ 4
  pub fit : AllByRecursion Fit ms
  pub put : (slots e : File) → Words slots → Words e → admitted e → (through slots ms e).0 ≡ puts m e
  pub registers : (slots e : File) → Words slots → Words e → admitted e → (through slots ms e).1 ≡ step slots m e

-- A last node puts nothing and leaves the registers as they are, and so must what stands in its place.
pub record LastAgrees (n : Last) (ms : List Middle) (k : Last) (admitted : File → Type 0) : Type 0 where
  pub few : length ms ≤ 4
  pub fit : AllByRecursion Fit ms
  pub named : (b : ℕ) → Names k b → Names n b
  pub put : (slots e : File) → Words slots → Words e → admitted e → (through slots ms e).0 ≡ []
  pub registers : (slots e : File) → Words slots → Words e → admitted e → (through slots ms e).1 ≡ e
  pub place : (slots e : File) → Words slots → Words e → admitted e → leaves k (through slots ms e).1 ≡ leaves n e

-- Over a lattice l, whose value is p.
pub record ForwardLaws {P F : Type 0} (l : LatticeOf P F) (p : P) (admits : F → File → Type 0) (after : Middle → F → F) (along : Last → Edge → F → F) (for_middle : Middle → F → Option (List Middle)) (for_last : Last → F → Option (List Middle × Last)) : Type 0 where
  pub weaker : (f g : F) → l.valid p f → l.valid p g → l.cautious p g f → (e : File) → Words e → admits f e → admits g e
  pub start_admits : admits (l.origin p) zeros
  pub after_valid : (m : Middle) → Fit m → (f : F) → l.valid p f → l.valid p (after m f)
  pub after_admits : (m : Middle) → Fit m → (f : F) → l.valid p f → (slots e : File) → Words slots → Words e → admits f e → admits (after m f) (step slots m e)
  pub along_valid : (n : Last) (k : Edge) (b : ℕ) → leads n k ≡ Some b → (f : F) → l.valid p f → l.valid p (along n k f)
  pub along_admits : (n : Last) (k : Edge) (f : F) → l.valid p f → (e : File) → Words e → admits f e → Takes n k e → admits (along n k f) e
  pub middle_agrees : (m : Middle) → Fit m → (f : F) → l.valid p f → (ms : List Middle) → for_middle m f ≡ Some ms → MiddleAgrees m ms (admits f)
  pub last_agrees : (n : Last) (f : F) → l.valid p f → (ms : List Middle) (k : Last) → for_last n f ≡ Some (ms, k) → LastAgrees n ms k (admits f)
