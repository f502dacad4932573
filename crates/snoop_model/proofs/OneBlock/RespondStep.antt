-- A Respond finds its rows and keeps the invariant, and a load that it performs gives the flat value.
use Rattle.snoop_model.proofs.Common.{ap, inl, inr, arith, arrival, arrival_at_memory, BlockInvariant, Bool, CacheCell, Claims, claims_of, cond, cond_both, Did, eq-eqb, false, FillsRequestor, held_at, held_by, is_get_m, is_put_m, keeps, length, List, MemCell, ne_eqb, None, nothing_held, Open, Option, owns, Picture, picture_of, Protocol, refl, Responds, same_Some, Situation, Some, sym, takes_payload, true, ℕ, ◌<◌, ◌∙◌, ◌≡◌}
use Rattle.snoop_model.proofs.Tables.OrderTests.{answer_claims, gains, respond_claims, respond_rule, row_for, settled_row, settled_so, stays_so, writes}
use Rattle.snoop_model.proofs.OneBlock.{AfterMoves.by_request, Facts.{flat_after, IsLawful, line_of, LineFits, OwnerIn, still_fits}}
use Rattle.snoop_model.proofs.{Lists.{each_set, of_choice}, Tables.{Rows.IsProper-fill, Tested.of_open}}

-- all that a Respond looks up of a picture that keeps its invariant
pub record Closing {p : Protocol} {n : ℕ} {flat : List ℕ} {before : Picture} (good : BlockInvariant p n flat before) (o : Open) : Type 0 where
  pub opened : before.transaction ≡ Some o
  pub memory : MemCell
  pub is_memory : settled_row p o.request before.memory.state o.payload ≡ Some memory
  pub next : Claims
  pub is_next : claims_of p memory.next None ≡ Some next
  pub tests : (respond_claims p o.request o.payload good.claims memory next).claim

pub close : {p : Protocol} {n : ℕ} {flat : List ℕ} {before : Picture} (good : BlockInvariant p n flat before) (o : Open) → before.transaction ≡ Some o → Closing good o
close {p} {n} {flat} {before} good o opened =
    let (memory, is_memory, (next, is_next, tests)) = respond_rule p before.memory.state _ _ _ (rw opened at good.is_claims) in
    record { opened = opened; memory = memory; is_memory = is_memory; next = next; is_next = is_next; tests = tests }

-- the requestor of a GetS or a GetM has a row for the data
pub answered : {p : Protocol} {n : ℕ} {flat : List ℕ} {before : Picture} {good : BlockInvariant p n flat before} {o : Open} (found : Closing good o)
    → is_put_m o.request ≡ false
    → (row : CacheCell) × (row_for p (held_by before o.core).state (arrival o.payload) ≡ Some row) × (answer_claims p o.request good.claims found.next (owns good.owner o.core) row).claim
answered {p} {n} {flat} {before} {good} {o} found get =
    let (_, (_, (_, (_, (_, (has_row, _)))))) = found.tests in
    has_row get _ _ (rw (found.opened, eq-eqb o.core o.core refl) at (good.states o.core (good.requestor_in o found.opened)))

-- a Respond of a picture that keeps its invariant
module _ (s : Situation) (block : ℕ) (o : Open) (did : Option Did) (new : Situation) (r : Responds s block o did new) (n : ℕ) (flat : List ℕ) (g : BlockInvariant s.protocol n flat (picture_of s block)) (in_row : o.core < length (picture_of s block).caches) where
  abbrev p : Protocol
  p = s.protocol

  abbrev before : Picture
  before = picture_of s block

  found : Closing g o
  found = close g o r.opened

  abbrev gained : Bool
  gained = gains g.claims found.next

  -- the row that memory takes
  memory_is : found.memory ≡ record { action = r.memory.act; next = r.next.memory.state }
  memory_is =
      same_Some _ _ (sym found.is_memory
      ∙ (settled_so (takes_payload o.request before.memory.state) p (arrival_at_memory o.payload) before.memory.state r.memory.act r.next.memory.state).0 r.memory.settled)

  -- memory is written with the block's words, or has them where it had
  memory_flat : (writes r.memory.act ≡ false → before.memory.value ≡ flat) → r.next.memory.value ≡ flat
  memory_flat stays =
      let (_, (_, (_, (comes, _)))) = found.tests in
      let new : writes r.memory.act ≡ true → o.value ≡ flat = λ w. g.carried o r.opened (comes (rw memory_is w)) in
      grind (arith, r.memory.value, new, stays)

  -- a core that is not answered keeps its line, which fits then, if the block's words change only at a GetM
  stays : (words : List ℕ) → (is_get_m o.request ≡ false → words ≡ flat) → (d : ℕ) → d < n
      → (stays_so p o.request g.claims found.next (held_by before d).state (owns g.owner d)).claim
      → LineFits p found.next.shared (cond gained false (owns g.owner d)) None words r.next.memory.value (held_by before d)
  stays words same d d_in so =
      let (fit, blind) = so (grind (arith, g.is_owned)) in
      let reads : keeps (held_by before d).state ≡ true → words ≡ flat = λ h. grind (arith, same, blind, h) in
      still_fits (held_by before d) (line_of g d d_in) reads (λ is. memory_flat (λ w. is)) fit

  closed : (words : List ℕ) → (is_get_m o.request ≡ false → words ≡ flat)
      → ((d : ℕ) → d < n → LineFits p found.next.shared (owns (cond gained (Some o.core) g.owner) d) None words r.next.memory.value (held_at r.next.caches d))
      → BlockInvariant p n words r.next
  closed words same lines =
      record {
        claims = found.next;
        is_claims = simp r.closed (rw memory_is at found.is_next);
        owner = cond gained (Some o.core) g.owner;
        owner_in = cond_both gained (Some o.core) g.owner (OwnerIn n) (λ is x owned. rw (← same_Some o.core x owned) (g.requestor_in o r.opened)) (λ is. g.owner_in);
        is_owned = grind (arith, g.is_owned, found.tests.1.0);
        states = λ d d_in. simp r.closed (lines d d_in).fit;
        kept = λ d d_in. (lines d d_in).kept;
        clean = λ d d_in. (lines d d_in).clean;
        fresh = λ h.
            let (_, (_, (_, (_, (was_fresh, _))))) = found.tests in
            let (get_s, from) = was_fresh h in
            memory_flat (λ w. g.fresh (from (rw memory_is w))) ∙ sym (same get_s);
        carried = λ x is_x carries. cc (r.closed, is_x);
        requestor_in = λ x is_x. cc (r.closed, is_x);
        sender_in = λ x is_x. cc (r.closed, is_x);
        proper = λ d d_in. (lines d d_in).proper;
      }

  -- the end of a GetS or a GetM
  respond_get : is_put_m o.request ≡ false → FillsRequestor o p s.log before.caches r.next.caches did
      → BlockInvariant p n (flat_after flat did) r.next × IsLawful flat did
  respond_get get f =
      let c = o.core in
      let (row, is_row, (fit, (clean, performs))) = answered found get in
      let (_, (_, (_, (_, (_, (_, (others, _))))))) = found.tests in
      let row_is : row ≡ f.fills.row = same_Some _ _ (sym is_row ∙ rw f.fills.arrives f.fills.is_row) in
      let words : (f.fills.after ≡ flat_after flat did) × IsLawful flat did × (is_get_m o.request ≡ false → flat_after flat did ≡ flat) =
      grind (arith, f.logged, g.carried o r.opened (found.tests.0 get), f.fills.fill, f.fills.performed, rw row_is at performs) in
      let filled : LineFits p found.next.shared (owns (cond gained (Some c) g.owner) c) None (flat_after flat did) r.next.memory.value f.line = rw f.fills.held (record {
        fit = rw (of_choice (λ x. owns x c) gained (Some c) g.owner, eq-eqb c c refl) (rw row_is at fit);
        kept = λ h. rw words.0 refl;
        clean = λ h. let (fresh, get_s) = clean (rw row_is h) in memory_flat (λ w. g.fresh fresh) ∙ sym (words.2 get_s);
        proper = IsProper-fill p (held_by before c).state f.fills.event f.fills.row.action f.fills.row.next f.asking.op f.fills.after f.fills.fill f.fills.is_row;
      }) in (
        closed (flat_after flat did) words.2 (simp f.held (each_set before.caches c f.line nothing_held
            (λ d x. d < n → LineFits p found.next.shared (owns (cond gained (Some c) g.owner) d) None (flat_after flat did) r.next.memory.value x) in_row (λ c_in. filled)
            (λ d apart d_in. rw (of_choice (λ x. owns x d) gained (Some c) g.owner, ne_eqb d c apart) (stays (flat_after flat did) words.2 d d_in
            (others get _ _ (rw (r.opened, ne_eqb d c apart) at (g.states d d_in))))))),
        words.1,
      )

  -- a Respond keeps the invariant of a picture, and a load that it performs gives the flat value
  pub respond_keeps : BlockInvariant p n (flat_after flat did) r.next × IsLawful flat did
  respond_keeps = elim (by_request o.request r.requestor) [
    | inl (is_put, same, none) ↦
        let put = ap is_put_m is_put in
        let (_, (_, (_, (_, (_, (_, (_, stay))))))) = found.tests in
        let no_gain : gained ≡ false = found.tests.1.1.0 put in
        let lines = λ (d : ℕ) (d_in : d < n). stays flat (λ h. refl) d d_in
        (of_open p _ (Some o) (stays_so p o.request g.claims found.next) (stay put) d _ _ (rw r.opened at (g.states d d_in))) in
        rw none (closed flat (λ h. refl) (λ d d_in. simp same (rw no_gain (rw no_gain at (lines d d_in)))), tt)
    | inr (get, f) ↦ respond_get get f
  ]
