-- What follows from the invariant of one block.
use Rattle.snoop_model.proofs.Common.{arith, BlockInvariant, Bool, cond, Did, eqb-true, false, fits, held_by, IfSome, is_clean, is_some, IsProper, Item, keeps, Line, List, ne_eqb, None, not, operation_of, Option, option_and_then, option_map_or, own_open, owns, Picture, Protocol, refl, Request, same, slice_set, Some, sym, talk_of, true, word_at, ℕ, ◌<◌, ◌↔◌, ◌∙◌, ◌≡◌, ◌≢◌}
use Rattle.snoop_model.proofs.Tables.{Rows.{brings_data, carries, claims_rule}, Tested.of_open}

-- what the invariant says of one core's line, where the block's words and memory's are these
pub record LineFits (p : Protocol) (shared owning : Bool) (wait : Option Request) (words memory : List ℕ) (line : Line) : Type 0 where
  pub fit : fits p shared owning wait line.state ≡ true
  pub kept : keeps line.state ≡ true → line.kept ≡ Some words
  pub clean : is_clean line.state ≡ true → memory ≡ words
  pub proper : IsProper line

module _ {p : Protocol} {shared owning shared' owning' : Bool} {wait wait' : Option Request} {flat memory : List ℕ} (old : Line) (was : LineFits p shared owning wait flat memory old) where
  -- a row that makes no reader, and no clean owner, of a core lets its words carry over
  pub carried_line : (new : Line) → (keeps new.state ≡ true → new.kept ≡ old.kept) → fits p shared' owning' wait' new.state ≡ true → (carries old.state new.state).claim → IsProper new
      → LineFits p shared' owning' wait' flat memory new
  carried_line new kept fit carry proper = record { fit = fit; kept = λ h. kept h ∙ was.kept (carry.0 h); clean = λ h. was.clean (carry.1 h); proper = proper }

  -- a line that stays as it is fits the block's new words, which are the old ones if the line may be read
  pub still_fits : {words memory' : List ℕ} → (keeps old.state ≡ true → words ≡ flat) → (memory ≡ flat → memory' ≡ flat) → fits p shared' owning' wait' old.state ≡ true
      → LineFits p shared' owning' wait' words memory' old
  unfolding is_clean
  still_fits same stays fit = record { fit = fit; kept = λ h. rw (same h) (was.kept h); clean = λ h. stays (was.clean h) ∙ sym (same (grind (arith, h))); proper = was.proper }

pub owner_is : (owner : Option ℕ) (d : ℕ) → owns owner d ≡ true → owner ≡ Some d
owner_is owner d h = grind (arith, eqb-true d)

module _ {p : Protocol} {n : ℕ} {flat : List ℕ} {picture : Picture} (g : BlockInvariant p n flat picture) where
  pub line_of : (d : ℕ) → d < n → LineFits p g.claims.shared (owns g.owner d) (own_open picture.transaction d) flat picture.memory.value (held_by picture d)
  line_of d d_in = record { fit = g.states d d_in; kept = g.kept d d_in; clean = g.clean d d_in; proper = g.proper d d_in }

  -- while a core owns the block, memory's value and data under way are claimed of nobody, and no other core may read
  pub owned_alone : (c : ℕ) → owns g.owner c ≡ true
      → (g.claims.fresh ≡ false) × (brings_data (talk_of picture.transaction) ≡ false) × ((d : ℕ) → d < n → d ≢ c → keeps (held_by picture d).state ≡ false)
  owned_alone c owning =
      let (unfresh, (no_data, blind)) = (claims_rule p picture.memory.state (talk_of picture.transaction) g.claims g.is_claims).0 (sym g.is_owned ∙ rw (owner_is g.owner c owning) refl) in
      (unfresh, no_data, λ d d_in apart. of_open p g.claims.shared picture.transaction _ blind d _ _ (g.states d d_in) (rw (owner_is g.owner c owning) (ne_eqb d c apart)))

-- whether a sender, memory or a core, is this one
abbrev pub is_it : Option ℕ → Option ℕ → Bool
is_it sender None = not (is_some sender)
is_it sender (Some d) = owns sender d

pub it_is : (sender from : Option ℕ) → (is_it sender from ≡ true) ↔ (from ≡ sender)
it_is sender from = (λ h. grind (arith, owner_is sender), λ h. grind arith)

-- an owner is one of the cores below n
abbrev pub OwnerIn : ℕ → Option ℕ → Type 0
OwnerIn n owner = (o : ℕ) → owner ≡ Some o → o < n

abbrev pub did_in : Option Item → Option Did
did_in entry = option_and_then operation_of entry

abbrev pub flat_after : List ℕ → Option Did → List ℕ
flat_after flat did = option_map_or (λ d. cond d.load flat (slice_set flat d.word d.value)) did flat

-- a load gives flat memory's value
abbrev pub IsLawful : List ℕ → Option Did → Type 0
IsLawful flat did = IfSome did (λ d. d.load ≡ true → d.value ≡ word_at flat d.word)
