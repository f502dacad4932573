-- An Ask keeps the invariant, and a load that it performs gives the flat value.
use Rattle.snoop_model.proofs.Common.{arith, asked, Asks, BlockInvariant, Bool, both_ways, CacheAction, Cell, Drop, false, held_by, Hit, inl, inr, Issue, length, Line, List, Load, nothing_held, Op, own_open, owns, Picture, picture_of, refl, Reply, same_Some, Situation, Store, sym, Takes, true, with_line, ℕ, ◌<◌, ◌∙◌, ◌≡◌, ◌⊎◌}
use Rattle.snoop_model.proofs.{Lists.each_set, OneBlock.Facts.{carried_line, did_in, flat_after, IsLawful, line_of, LineFits, owned_alone, still_fits}}
use Rattle.snoop_model.proofs.Tables.Rows.{ask_rule, asked_row, hit_keeps, IsProper-drop, IsProper-hit, IsProper-issue}
use Rattle.snoop_rules.specs.declared.names.CacheEvent.TheVariants as event

module _ (s : Situation) (core block word : ℕ) (asking : Op) (answer : Reply) (new : Situation) (asks : Asks s core block word asking answer new)
    (n : ℕ) (flat : List ℕ) (g : BlockInvariant s.protocol n flat (picture_of s block)) (asker_in : core < n) (in_row : core < length (picture_of s block).caches) where
  abbrev before : Picture
  before = picture_of s block

  abbrev old : Line
  old = held_by before core

  -- what the core holds after an Ask, by its row; whether the block's words change; and that a load gives the flat value
  asker : (a : CacheAction) (o : Op) → Cell s.protocol old.state (asked o) a asks.row.next
      → (asked_row s.protocol g.claims.shared (owns g.owner core) (own_open before.transaction core) old.state (asked o) (record { action = a; next = asks.row.next })).claim
      → Takes a asks.row.next s.log core block word o old asks.held answer asks.entry
      → LineFits s.protocol g.claims.shared (owns g.owner core) (own_open before.transaction core) (flat_after flat (did_in asks.entry)) before.memory.value asks.held
      × ((flat_after flat (did_in asks.entry) ≡ flat) ⊎ (owns g.owner core ≡ true)) × IsLawful flat (did_in asks.entry)
  asker Hit Load row (fit, (carry, _)) (value, (hit, _, entry)) =
      let same = same_Some _ _ (sym hit.kept ∙ g.kept core asker_in (hit_keeps _ _ _ _ row).0) in
      let proper = IsProper-hit s.protocol old event.Load asks.row.next hit.after (g.proper core asker_in) row in
      rw (hit.held, entry) (carried_line old (line_of g core asker_in) _ (λ h. cc) fit (carry refl) proper, inl refl, λ e. cc)
  asker Hit (Store v) row (fit, (_, stores)) (value, (hit, _, entry)) =
      let same = same_Some _ _ (sym hit.kept ∙ g.kept core asker_in (hit_keeps _ _ _ _ row).0) in
      let (owning, unclean) = stores refl in
      let proper = IsProper-hit s.protocol old event.Store asks.row.next hit.after (g.proper core asker_in) row in
      rw (hit.held, entry) (record { fit = fit; kept = λ h. cc; clean = λ h. absurd (both_ways _ unclean h); proper = proper }, inr owning, λ e. cc)
  asker (Issue r) o row (fit, (carry, _)) (held, _, entry) =
      let proper = IsProper-issue s.protocol old word o r asks.row.next (g.proper core asker_in) row in
      rw (held, entry) (carried_line old (line_of g core asker_in) _ (λ h. grind (arith, h)) fit (carry refl) proper, inl refl, tt)
  asker Drop o row (fit, (carry, _)) (held, _, entry) =
      let proper = IsProper-drop s.protocol old (asked o) asks.row.next (g.proper core asker_in) row in
      rw (held, entry) (carried_line old (line_of g core asker_in) _ (λ h. grind (arith, h)) fit (carry refl) proper, inl refl, tt)
  asker a o row so took = absurd (grind (arith, took))

  -- an Ask keeps the invariant of a picture, and a load that it performs gives the flat value
  pub ask_keeps : BlockInvariant s.protocol n (flat_after flat (did_in asks.entry)) (with_line before core asks.held) × IsLawful flat (did_in asks.entry)
  ask_keeps =
      let words = flat_after flat (did_in asks.entry) in
      let (_, rule) = ask_rule _ _ _ _ _ asking (g.states core asker_in) in
      let (line, changed, lawful) = asker asks.row.action asking asks.is_row (rule asks.row asks.is_row) asks.taken in
      let unchanged : (b : Bool) → (owns g.owner core ≡ true → b ≡ false) → b ≡ true → words ≡ flat =
      λ b unless h. elim changed [ inl same ↦ same | inr owning ↦ absurd (both_ways b (unless owning) h) ] in
      let lines = each_set before.caches core asks.held nothing_held
      (λ d x. d < n → LineFits s.protocol g.claims.shared (owns g.owner d) (own_open before.transaction d) words before.memory.value x)
      in_row (λ c_in. line) (λ d apart d_in.
      still_fits (held_by before d) (line_of g d d_in) (unchanged _ (λ owning. (owned_alone g core owning).2 d d_in apart)) (λ is. is) (g.states d d_in)) in
      let good : BlockInvariant s.protocol n words (with_line before core asks.held) = record {
        claims = g.claims;
        is_claims = g.is_claims;
        owner = g.owner;
        owner_in = g.owner_in;
        is_owned = g.is_owned;
        states = λ d d_in. (lines d d_in).fit;
        kept = λ d d_in. (lines d d_in).kept;
        clean = λ d d_in. (lines d d_in).clean;
        fresh = λ h. g.fresh h ∙ sym (unchanged _ (λ owning. (owned_alone g core owning).0) h);
        carried = λ o is_o carrying. g.carried o is_o carrying ∙ sym (unchanged _ (λ owning. rw is_o at (owned_alone g core owning).1) carrying);
        requestor_in = g.requestor_in;
        sender_in = g.sender_in;
        proper = λ d d_in. (lines d d_in).proper;
      } in
      (good, lawful)
