-- Publishing and entering keep the rule of the versions, and a writer has at most one item ready.
use Rattle.std.proofs.Common.{◌≡◌, ◌≢◌, ℕ, ◌<◌, ◌≤◌, List, [], ◌∷◌, ◌++◌, length, fold, map, Some, None, inl, inr, true, false, true≢false, refl, sym, ap, ◌∙◌, ⊎_elim, append-nil, append_assoc, arith}
use Rattle.snoop_versions.proofs.Common.{absorbed_board, Adds, All, Enters, Err, Fits, grown, IsHistory, IsOk, IsPublishing, IsWriting, Item, Kept, MatchResult, newcomer, newest_of, Ok, Result, same_shape, Sees, Version, version_of, View, viewing}
use Rattle.std.proofs.lemmas.{Bool.cases_Bool, List.{map-append, Elements.All-nil}}
use mathlib.Core.Option.{some}
use lib.ListN.{get_elem?, set}
use Rattle.left_right.specs.Register.{Admits, TurnsAt, Turns}
use Rattle.atomic_table.proofs.Lists.{at_set, at_snoc}
use Rattle.snoop_trace.specs.{Extent.Extent, Output.IsReadableStep, declared.protocol.Protocol.TheVariants.Msi}
use Rattle.snoop_model.specs.Pictures.Situation.{reset}
use Rattle.snoop_history.{specs.{History.last_or, Within.IsItemWithin}, proofs.Pushed.last_or-append}

-- the last of a list that has grown by one
pub last-push : {A : Type 0} (list : List A) (entry : A) → last_or None (map Some (list ++ entry ∷ [])) ≡ Some entry
last-push list entry = rw map-append (last_or-append None (map Some list) (Some entry ∷ []))

pub version_of-push : (cores blocks words : ℕ) (list : List Item) (entry : Item) → version_of cores blocks words (list ++ entry ∷ []) ≡ grown (version_of cores blocks words list) entry
version_of-push cores blocks words list entry = λ i. record {
  board = sym (absorbed_board cores blocks words list entry) i;
  newest = last-push list entry i;
}

newest_none : (list : List Item) → newest_of list ≡ None → list ≡ []
newest_none [] e = refl
newest_none (x ∷ []) e = cc
newest_none (x ∷ y ∷ list) e = let none = newest_none (y ∷ list) e in cc

newcomer_fits : (cores blocks words : ℕ) (list : List Item) (writer handle : ℕ) → Fits cores blocks words list writer handle newcomer
newcomer_fits cores blocks words list writer handle = record { begins = (list, refl); shape = λ e. cc; writes = λ e. cc }

-- the rule holds of more views, if each fits
kept_on : {x : Version} {views after : List View} (k : Kept x views)
    → ((handle : ℕ) (v : View) → get_elem? after handle ≡ some v → Fits k.cores k.blocks k.words k.list k.writer handle v) → Kept x after
kept_on k each =
    record { cores = k.cores; blocks = k.blocks; words = k.words; list = k.list; writer = k.writer; version = k.version; history = k.history; within = k.within; each = each }

pub admits : Admits Kept newcomer
admits x views k = kept_on k (λ handle v there.
    ⊎_elim (k.each handle v) (λ same. rw (← same) (newcomer_fits k.cores k.blocks k.words k.list k.writer handle)) (at_snoc views newcomer v handle there))

-- before the first item the history is that of a machine at reset
pub opens : (shape : Extent) (x : Version) → x ≡ version_of shape.cores shape.blocks shape.words [] → Kept x (newcomer ∷ [])
opens shape x is =
    let history : IsHistory shape.cores shape.blocks shape.words [] =
    record { legal = λ k entry at. cc; protocol = Msi; shape = shape; size = (refl, refl, refl); steps = []; readable = All-nil (IsReadableStep shape); at = reset Msi shape; taken = ([], refl); logged = refl } in
    let within = All-nil (IsItemWithin shape.cores shape.blocks shape.words) in
    admits x [] (record { cores = shape.cores; blocks = shape.blocks; words = shape.words; list = []; writer = 0; version = is; history = history; within = within; each = λ handle v there. cc })

-- what holds of each view after one is set
each_set : (F : ℕ → View → Type 0) (views : List View) (handle : ℕ) (w : View) → F handle w
    → ((other : ℕ) (u : View) → other ≢ handle → get_elem? views other ≡ some u → F other u)
    → (j : ℕ) (u : View) → get_elem? (set views handle w) j ≡ some u → F j u
each_set F views handle w here others j u there =
    ⊎_elim (λ t. rw (t.0, ← t.1) here) (λ t. others j u t.0 t.1) (at_set views handle j w u there)

pub sees : (handle : ℕ) (v : View) → Turns Kept handle v (λ x. x) Sees
sees handle v x views k at =
    let w : View = record { used = true; writes = false; cores = k.cores; blocks = k.blocks; words = k.words; seen = k.list } in
    let fits : Fits k.cores k.blocks k.words k.list k.writer handle w = record { begins = ([], sym (append-nil k.list)); shape = λ e. (refl, refl, refl); writes = λ e. cc } in
    let was = k.each handle v at in (
      w,
      kept_on k (each_set (Fits k.cores k.blocks k.words k.list k.writer) views handle w fits (λ other u apart. k.each other u)),
      record { used = refl; version = k.version; history = k.history; within = k.within; begins = was.begins; shape = λ e. let s = was.shape e in (sym s.0, sym s.1, sym s.2) },
    )

-- what a reader then knows
pub enters : {v w : View} {x y : Version} → v.used ≡ true → Sees v x y w → Enters (viewing v) (viewing w)
enters used s = record { history = s.history; begins = s.begins; shape = s.shape used }

-- the writer's list is the published one, and nobody else writes
written : (handle : ℕ) (v : View) (x : Version) (c b d : ℕ) {views : List View} (k : Kept x views) → x ≡ version_of c b d v.seen → IsWriting v → get_elem? views handle ≡ some v
    → (k.list ≡ v.seen) × ((other : ℕ) (u : View) → other ≢ handle → get_elem? views other ≡ some u → u.writes ≢ true)
written handle v x c b d k shown is at = elim (cases_Bool v.writes) [
  | inl e ↦
      let mine = (k.each handle v at).writes e in
      (sym mine.1, λ other u apart there w. apart (((k.each other u there).writes w).0 ∙ sym mine.0))
  | inr e ↦
      let none = newest_none k.list (ap (λ (y : Version). y.newest) (sym k.version ∙ shown) ∙ ap newest_of (is e)) in
      (none ∙ sym (is e), λ other u apart there w. ((k.each other u there).writes w).2 (ap newest_of none))
]

pub adds : (handle : ℕ) (v : View) (x next : Version) (c b d : ℕ) (entry : Item) → x ≡ version_of c b d v.seen → IsWriting v → IsHistory c b d (v.seen ++ entry ∷ []) → All (IsItemWithin c b d) (v.seen ++ entry ∷ []) → next ≡ grown x entry → TurnsAt Kept handle v x next Adds
adds handle v x next c b d entry shown is history within grows views k at =
    let (same, no_other) = written handle v x c b d k shown is at in
    let shape = same_shape c b d k.cores k.blocks k.words v.seen k.list (ap (λ (y : Version). y.board) (sym shown ∙ k.version)) in
    let list = k.list ++ entry ∷ [] in
    let w : View = record { used = true; writes = true; cores = k.cores; blocks = k.blocks; words = k.words; seen = list } in
    let fits : Fits k.cores k.blocks k.words list handle handle w = record { begins = ([], sym (append-nil list)); shape = λ e. (refl, refl, refl); writes = λ e. (refl, refl, λ none. let last = last-push k.list entry in cc) } in (
      w,
      record {
        cores = k.cores;
        blocks = k.blocks;
        words = k.words;
        list = list;
        writer = handle;
        version = grows ∙ ap (λ (y : Version). grown y entry) k.version ∙ sym (version_of-push k.cores k.blocks k.words k.list entry);
        history = rw (shape.0, shape.1, shape.2, ← same) at history;
        within = rw (shape.0, shape.1, shape.2, ← same) at within;
        each = each_set (Fits k.cores k.blocks k.words list handle) views handle w fits (λ other u apart there.
            let (rest, begins) = (k.each other u there).begins in
            record {
              begins = (rest ++ entry ∷ [], ap (λ (l : List Item). l ++ entry ∷ []) begins ∙ append_assoc u.seen rest (entry ∷ []));
              shape = (k.each other u there).shape;
              writes = λ e. absurd (no_other other u apart there e);
            });
      },
      (refl, rw (grows, same)),
    )

-- after an append to nothing at most one item is ready
pub ready_grows : {A : Type 0} (r : Result A Item) (old new : List Item) (entry : Item) → MatchResult r (λ _. new ≡ old ++ entry ∷ []) (λ back. (back ≡ entry) × (new ≡ old)) → old ≡ [] → length new ≤ 1
ready_grows (Ok a) old new entry after none = let n : length new ≡ 1 = ap length (rw none at after) in omega arith
ready_grows (Err e) old new entry after none = let n : length new ≡ 0 = ap length (after.1 ∙ none) in omega arith

-- what holds after a call that succeeds
pub ok_side : {A E P : Type 0} (Q : Type 0) (r : Result A E) → IsOk r → MatchResult r (λ _. P) (λ _. Q) → P
ok_side Q (Ok a) ok after = after
ok_side Q (Err e) ok after = absurd (true≢false (sym ok))

-- what the writer publishes is one item
pub one_ready : (ready : List Item) → 0 < length ready → length ready ≤ 1 → (entry : Item) × (ready ≡ entry ∷ [])
one_ready [] any few = absurd (omega arith)
one_ready (entry ∷ []) any few = (entry, refl)
one_ready (entry ∷ next ∷ rest) any few = absurd (omega arith)

-- after what is ready is published, the version is that of the longer list
pub publishes_on : {cores blocks words : ℕ} {v w : View} {x y : Version} {ready : List Item} → 0 < length ready → Adds v x y w → y ≡ fold grown x ready → IsPublishing cores blocks words v x ready
    → (w.seen ≡ v.seen ++ ready) × IsPublishing cores blocks words w y []
publishes_on {cores} {blocks} {words} {v} {w} {x} {y} {ready} any adds is p =
    let (entry, one) = one_ready ready any p.few in
    let seen : w.seen ≡ v.seen ++ entry ∷ [] = rw (is, one) at adds.1 in (
      rw one seen,
      record {
        writing = λ e. absurd (true≢false (sym adds.0 ∙ e));
        shown = rw (is, one, seen, p.shown) (sym (version_of-push cores blocks words v.seen entry));
        few = omega arith;
      },
    )
