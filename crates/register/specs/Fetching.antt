-- What a carrier's queue says of its copy.
use Rattle.std.specs.Prelude.{◌≡◌, ℕ, false, List, Contains}
use Rattle.numbers.specs.Subjects.{Subject}
use Rattle.model.specs.Laws.{steady_routing}
use Rattle.model.specs.State.{State, record_now, any_open, copy_of, published}

-- Holds if the carrier's copy is what was last published to it and, if no broadcast is open, the
-- routings of all versions in force.
pub record CopyMatchesPublished (st : State) (c : ℕ) : Type 0 where
  pub published : (s : Subject) → copy_of st.windows c s st.history ≡ published st c s
  pub in_force : any_open st ≡ false → (s : Subject)
      → copy_of st.windows c s st.history ≡ steady_routing (record_now st s)

-- Holds if the carrier's copy is what was last published to it, except possibly for these subjects.
abbrev pub CopyMatchesPublishedBut : State → (c : ℕ) → List Subject → Type 0
CopyMatchesPublishedBut st c subjects = (s : Subject) → (Contains subjects s → ⊥)
    → copy_of st.windows c s st.history ≡ published st c s
