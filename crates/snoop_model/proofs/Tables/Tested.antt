-- Claims with a test each: where the test passes the claim holds, so a claim of all values of the tables is proved by computing its test.
use Rattle.snoop_model.proofs.Common.{all_memories, all_memories-at, all_protocols, all_protocols-at, all_states, all_states-at, and_parts, arith, Bare, Bool, CacheState, cases_Bool, eqb, false, fits, inl, inr, MemState, None, not, not-true, Open, Option, option_map_or, own_open, Protocol, refl, Request, same, same_true, sameb, Some, Talk, talk_of, true, ℕ, ◌&&◌, ◌≡◌}
use denote.Enum.Declared.{Declared}

infixr 20 ◌also◌
pub record Tested : Type 1 where
  pub claim : Type 0
  pub test : Bool
  pub sound : test ≡ true → claim

abbrev pub holds : Bool → Tested
holds b = record { claim = b ≡ true; test = b; sound = λ h. h }

abbrev pub fails : Bool → Tested
fails b = record { claim = b ≡ false; test = not b; sound = not-true b }

pub same_is : (a b : Bool) → same a b ≡ true → a ≡ b
unfolding same
same_is a b h = grind arith

abbrev pub alike : Bool → Bool → Tested
alike a b = record { claim = a ≡ b; test = same a b; sound = same_is a b }

-- the same value of an enum without fields, or none in both
abbrev pub same_option : (D : Declared) → Option D.D → Option D.D → Bool
same_option D None None = true
same_option D (Some a) (Some b) = sameb D a b
same_option D _ _ = false

pub same_option-true : (D : Declared) → Bare D.parts → (a b : Option D.D) → same_option D a b ≡ true → a ≡ b
same_option-true D bare a b h = grind (arith, same_true D bare)

abbrev pub equal : (D : Declared) → Bare D.parts → Option D.D → Option D.D → Tested
equal D bare a b = record { claim = a ≡ b; test = same_option D a b; sound = same_option-true D bare a b }

abbrev pub ◌also◌ : Tested → Tested → Tested
a also b = record { claim = a.claim × b.claim; test = a.test && b.test; sound = λ h. let (one, other) = and_parts a.test b.test h in (a.sound one, b.sound other) }

-- a claim under a premise
abbrev pub when : Bool → (Bool → Bool) → Bool
when true f = f true
when false f = true

abbrev pub provided : Bool → (Bool → Tested) → Tested
provided b c = record { claim = b ≡ true → (c true).claim; test = when b (λ x. (c x).test); sound = λ h e. (c true).sound (rw e at h) }

abbrev pub unless : Bool → (Bool → Tested) → Tested
unless b c = record { claim = b ≡ false → (c true).claim; test = when (not b) (λ x. (c x).test); sound = λ h e. (c true).sound (rw e at h) }

-- a claim of the value, if there is one
abbrev pub given : {A : Type 0} → Option A → (A → Tested) → Tested
given {A} o c = record { claim = (a : A) → o ≡ Some a → (c a).claim; test = option_map_or (λ a. (c a).test) o true; sound = λ h a e. (c a).sound (rw e at h) }

-- there is a value, of which the claim holds
pub found_at : {A : Type 0} (o : Option A) (f : A → Bool) → option_map_or f o false ≡ true → (a : A) × (o ≡ Some a) × (f a ≡ true)
found_at None f h = cc
found_at (Some a) f h = (a, refl, h)

abbrev pub found : {A : Type 0} → Option A → (A → Tested) → Tested
found {A} o c = record {
  claim = (a : A) × (o ≡ Some a) × (c a).claim;
  test = option_map_or (λ a. (c a).test) o false;
  sound = λ h. let (a, is, passes) = found_at o (λ x. (c x).test) h in (a, is, (c a).sound passes);
}

-- a claim of each value of a type
abbrev pub each_of : {A : Type 0} (all : (A → Bool) → Bool) → ((f : A → Bool) → all f ≡ true → (a : A) → f a ≡ true) → (A → Tested) → Tested
each_of {A} all at c = record { claim = (a : A) → (c a).claim; test = all (λ a. (c a).test); sound = λ h a. (c a).sound (at (λ x. (c x).test) h a) }

pub either-at : (f : Bool → Bool) → (f true && f false) ≡ true → (x : Bool) → f x ≡ true
either-at f h x = grind arith

abbrev pub each_bool : (Bool → Tested) → Tested
each_bool = each_of (λ f. f true && f false) either-at

pub all_options-at : {A : Type 0} (all : (A → Bool) → Bool) → ((f : A → Bool) → all f ≡ true → (a : A) → f a ≡ true)
    → (test : Option A → Bool) → (test None && all (λ a. test (Some a))) ≡ true → (o : Option A) → test o ≡ true
all_options-at all at test h o = grind (arith, at (λ a. test (Some a)))

abbrev pub each_option : {A : Type 0} (all : (A → Bool) → Bool) → ((f : A → Bool) → all f ≡ true → (a : A) → f a ≡ true) → (Option A → Tested) → Tested
each_option all at = each_of (λ test. test None && all (λ a. test (Some a))) (all_options-at all at)

abbrev pub each_protocol : (Protocol → Tested) → Tested
each_protocol = each_of all_protocols all_protocols-at

abbrev pub each_memory : (MemState → Tested) → Tested
each_memory = each_of all_memories all_memories-at

-- a claim of each state that fits, of a core that owns the block or not
abbrev pub each_fitting : Protocol → Bool → Option Request → (CacheState → Bool → Tested) → Tested
each_fitting p shared wait c = each_of all_states all_states-at (λ s. each_bool (λ owns. provided (fits p shared owns wait s) (λ _. c s owns)))

-- the same, where a core may await the answer of what is open
abbrev pub each_open : Protocol → Bool → Option Talk → (CacheState → Bool → Tested) → Tested
each_open p shared None c = each_fitting p shared None c
each_open p shared (Some talk) c = each_fitting p shared None c also each_fitting p shared (Some talk.0) c

pub of_open : (p : Protocol) (shared : Bool) (t : Option Open) (c : CacheState → Bool → Tested) → (each_open p shared (talk_of t) c).claim
    → (d : ℕ) (s : CacheState) (owns : Bool) → fits p shared owns (own_open t d) s ≡ true → (c s owns).claim
of_open p shared None c all d s owns fit = all s owns fit
of_open p shared (Some o) c all d s owns fit = elim (cases_Bool (eqb d o.core)) [ inl is ↦ all.1 s owns (rw is at fit) | inr is ↦ all.0 s owns (rw is at fit) ]
