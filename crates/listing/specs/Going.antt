-- What a loop knows that steps a state and puts a line for each thing that comes, and which scanners are stepped so. Assumes nothing.
-- The page names no loop: this is what the loops of the listing keep.
use Rattle.std.specs.Prelude.{◌≡◌, Bool, List, [], ◌∷◌, ◌++◌, ℕ, suc, ◌+◌, ◌≤◌, length}
use Rattle.common.specs.Entry.{put_at}
use Rattle.common.specs.Refusals.{Outcome}
use Rattle.common.specs.Items.{step_for}
use Rattle.common.specs.Turn.{Step, yields, ends, drain}
use Rattle.common.specs.Scanning.{Scanner, answer, state}
use Rattle.fence.specs.Fence as fence
use Rattle.fence.specs.declared.FenceIter.{FenceIter}
use Rattle.cont.specs.Cont as cont
use Rattle.cont.specs.declared.ContIter.{ContIter}
use Rattle.listing.specs.Room.{Room}
use Rattle.listing.specs.Lines.{lines}
use Rattle.listing.specs.Listing.{fence_lines_of, frame_lines}

-- a step with other things
abbrev pub map_step : {A B S : Type 0} → (A → B) → Step A S → Step B S
map_step f (yields a g) = yields (f a) g
map_step f (ends g) = ends g

-- values that are none, or those of a thing, which `back` reads back from them: a state's step with the values is one with the thing
abbrev pub Reads : (S : Type 0) {A : Type 0} → (A → List ℕ) → (List ℕ → A) → List ℕ → Type 0
Reads S values back l = (n : S) → step_for (λ v. v) l n ≡ map_step values (step_for back l n)

module _ {S : Type 0} where
  -- a state's step, by the values of what it answers and the state after it: no values are the end
  unfoldable pub value_step : (S → Outcome) → (S → S) → S → Step (List ℕ) S
  value_step answer state g = step_for (λ v. v) (answer g).values (state g)

  module _ (step : S → Step (List ℕ) S) where
    -- a state whose steps yield these values, and then nothing
    pub record Yields (g : S) (l : List (List ℕ)) : Type 0 where
      pub fuel : ℕ
      pub drains : drain step (suc fuel) g ≡ l
      pub enough : length l ≤ fuel

    -- the lines of what came are put from n₀ on, and those of what the state g still yields are to come from k on; all together are `all`
    pub record Going (letter : ℕ) (row : List ℕ → List ℕ) (all : List ℕ) (n₀ : ℕ) (out₀ : List ℕ) (g : S) (out : List ℕ) (k : ℕ) : Type 0 where
      pub rest : List (List ℕ)
      pub left : Yields g rest
      pub done : List ℕ
      pub whole : all ≡ done ++ lines letter row rest
      pub here : k ≡ n₀ + length done
      pub list : out ≡ put_at n₀ done out₀
      pub room : Room n₀ all

-- ---- what the loops over the scanners know
-- over an item scanner, that puts lines of a letter
abbrev pub ItemsGoing : {S A : Type 0} → Scanner S A → List Bool → List ℕ → ℕ → List ℕ → ℕ → List ℕ → S → List ℕ → ℕ → Type 0
ItemsGoing c set s letter all = Going (value_step (λ g. answer c g set s) (λ g. state c g set s)) letter (λ v. v) all

-- over the fence scanner, that puts the fences of a byte
abbrev pub FencesGoing : ℕ → List ℕ → ℕ → List ℕ → FenceIter → List ℕ → ℕ → Type 0
FencesGoing byte s = Going (value_step (λ g. fence.answer g s) (λ g. fence.state g s)) 70 (λ v. v ++ (byte ∷ [])) (fence_lines_of byte s)

-- over the scanner of frames
abbrev pub FramesGoing : List ℕ → ℕ → List ℕ → ContIter → List ℕ → ℕ → Type 0
FramesGoing s = Going (value_step (λ g. cont.answer g s) (λ g. cont.state g s)) 67 (λ v. v) (frame_lines s)
