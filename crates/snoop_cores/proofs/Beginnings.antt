-- Lists that begin with others, and what one version shows of a core's operations.
use Rattle.std.proofs.Common.{◌≡◌, ℕ, ◌<◌, ◌≤◌, List, [], ◌∷◌, ◌++◌, length, ap, ◌∙◌, append_assoc, append-nil, arith, length-append, ◌+◌, map, Option, Some, None, nat_lt, if◌then◌else◌, sym}
use Rattle.snoop_cores.proofs.Common.{answers_of, Did, Does, Enters, filter-append, filter_map-append, GoesOn, IsOfShape, IsStranger, Item, Judged, last_of, last_or, length_push, lt-ltb, next_number, operation_of, operations, same_from_push, same_Some, Shows, StartsWith, Viewing, Work}
use Rattle.std.proofs.lemmas.List.Prefix.{front_fits}
use Rattle.snoop_history.specs.Totals.{capped}
use Rattle.snoop_versions.proofs.Versions.{last-push}
use Rattle.snoop_cores.specs.declared.{seat.Seat.TheInside.Inside, own.Own.{Own, TheVariants.{Unseen, Same, More, Strange}}}

-- a core's operations in a list and then another
pub answers_of-append : (items more : List Item) (core : ℕ) → answers_of (items ++ more) core ≡ answers_of items core ++ answers_of more core
answers_of-append items more core = rw (filter_map-append operation_of items more) (filter-append _ (operations items) (operations more))

pub starts_on : {A : Type 0} (last middle first : List A) → StartsWith last middle → StartsWith middle first → StartsWith last first
starts_on last middle first (new, is) (old, was) = (old ++ new, rw (is, was) (append_assoc first old new))

-- a list that begins with another, and is no longer, is the other
pub begins_whole : {A : Type 0} (all first : List A) → StartsWith all first → length all ≤ length first → all ≡ first
begins_whole all first ([], is) few = is ∙ append-nil first
begins_whole all first (x ∷ rest, is) few = absurd (omega (arith, ap length is, length-append first (x ∷ rest)))

-- the core's operations in what is seen still begin with these
pub begins_on : (core : ℕ) (now was : List Item) (dids : List Did) → StartsWith now was → StartsWith (answers_of was core) dids
    → StartsWith (answers_of now core) dids
begins_on core now was dids (new, is) =
    starts_on (answers_of now core) (answers_of was core) dids (answers_of new core, ap (λ (l : List Item). answers_of l core) is ∙ answers_of-append was new core)

-- what a seat keeps holds on once its reader has gone on
pub reader_on : (s : Inside) (after : Viewing)
    → IsOfShape s.reader s.share.share.shape × (s.core < s.share.share.shape.cores) × StartsWith (answers_of s.reader.seen s.core) s.answers.items → GoesOn s.reader after
    → IsOfShape after s.share.share.shape × (s.core < s.share.share.shape.cores) × StartsWith (answers_of after.seen s.core) s.answers.items
reader_on s after (shape, inside, begins) on = (
  (on.shape.0 ∙ shape.0, on.shape.1 ∙ shape.1, on.shape.2 ∙ shape.2),
  inside,
  begins_on s.core after.seen s.reader.seen s.answers.items on.begins begins,
)

one_more : (all dids : List Did) (did : Did) → StartsWith all dids → length all ≡ length dids + 1 → last_or None (map Some all) ≡ Some did → all ≡ dids ++ did ∷ []
one_more all dids did ([], is) long last = absurd (omega (arith, ap length is, length-append dids []))
one_more all dids did (x ∷ [], is) long last = let own = last-push dids x in cc
one_more all dids did (x ∷ y ∷ rest, is) long last = absurd (omega (arith, ap length is, length-append dids (x ∷ y ∷ rest)))

-- what is judged is shown
pub own_shown : (own : Own) (core : ℕ) (v w : Viewing) (answers : List Did) (count : Option ℕ) (last : Option Did)
    → Enters v w → core < v.cores → StartsWith (answers_of v.seen core) answers
    → count ≡ (if nat_lt core w.cores then Some (capped (next_number w.seen core)) else None)
    → last ≡ (if nat_lt core w.cores then last_of w.seen core else None)
    → Judged own count last (length answers) → Shows own core answers w
own_shown own core v w answers count last e lt b counted lasts judged =
    let within = lt-ltb core w.cores (omega (arith, lt, e.shape.0)) in
    by_case own (rw (rw within at counted, rw within at lasts) at judged)
  where
    all : List Did
    all = answers_of w.seen core

    begins : StartsWith all answers
    begins = begins_on core w.seen v.seen answers e.begins b

    by_case : (own : Own) → Judged own (Some (capped (length all))) (last_of w.seen core) (length answers) → Shows own core answers w
    by_case Unseen j = tt
    by_case Same j = (begins_whole all answers begins (omega (arith, same_Some _ _ j.0, j.1)), e.history)
    by_case (More did) j = (one_more all answers did begins (omega (arith, same_Some _ _ j.0, j.2)) j.1, e.history)
    by_case (Strange did) j = (j.2, omega (arith, front_fits all answers begins.0 begins.1, same_Some _ _ j.1, j.3, j.4, j.5), e.history)

-- one operation more that does not do the work is a stranger's
pub stranger_more : (did : Did) (work : Work) (dids answers : List Did) → ¬ Does did work → dids ≡ answers ++ did ∷ [] → IsStranger did work dids answers
stranger_more did work dids answers other is = record {
  last = rw is (last-push answers did);
  more = λ same. omega (arith, length_push answers did, ap length (sym is ∙ same));
  other = λ own does same. other (rw ((same_from_push answers answers did own (sym is ∙ same)).1) does);
}
