-- The loop in which each core takes its row, and the loop that looks for the one sender.
use Rattle.snoop_model.proofs.Common.{ap, arith, at_memory, CacheAction, CacheState, Cell, FollowsSenderTable, get_or-set_other, held_at, held_by, IfSome, length, length-set, Line, List, MemAction, MemoryCell, MemState, moves_to, nothing_held, Option, Payload, Picture, Protocol, Request, seen_by, Sends, slice_set, TakesRow, Target, ℕ, ◌+◌, ◌<◌, ◌∙◌, ◌≡◌, ◌≢◌, ◌≤◌}
use Rattle.snoop_model.proofs.{Lists.each_set, Tables.OrderTests.sends_is}
use Rattle.snoop_rules.specs.declared.names.CacheAction.TheVariants as action
use Rattle.snoop_rules.specs.declared.names.MemAction.TheVariants as mem_action

-- the cores below n have taken their rows, and the others have not
pub record Taking (protocol : Protocol) (requestor : ℕ) (request : Request) (old new : List Line) (n : ℕ) : Type 0 where
  pub same_length : length new ≡ length old
  pub taken : (k : ℕ) → k < n → TakesRow protocol (seen_by k requestor request) (held_at old k) (held_at new k)
  pub left : (k : ℕ) → n ≤ k → held_at new k ≡ held_at old k

pub Taking-more : (protocol : Protocol) (requestor : ℕ) (request : Request) (old new after : List Line) (n : ℕ) (act : CacheAction) (next : CacheState)
    → n < length old → Taking protocol requestor request old new n
    → Cell protocol (held_at new n).state (seen_by n requestor request) act next
    → after ≡ slice_set new n (moves_to next (held_at new n))
    → Taking protocol requestor request old after (n + 1)
Taking-more protocol requestor request old new after n act next in_row taking cell wrote =
    let line : Line = moves_to next (held_at new n) in
    let was : held_at new n ≡ held_at old n = taking.left n (omega arith) in
    rw wrote (record {
      same_length = length-set new n line ∙ taking.same_length;
      taken = each_set new n line nothing_held (λ k x. k < n + 1 → TakesRow protocol (seen_by k requestor request) (held_at old k) x) (rw taking.same_length in_row)
          (λ h. (record { action = act; next = next }, rw was at cell, ap (moves_to next) was)) (λ k apart h. taking.taken k (omega arith));
      left = λ k h. get_or-set_other new n k line nothing_held (λ e. absurd (omega arith)) ∙ taking.left k (omega arith);
    })

-- cores whose rows change nothing are passed over
pub Taking-past : (protocol : Protocol) (requestor : ℕ) (request : Request) (old new : List Line) (n m : ℕ)
    → ((k : ℕ) → n ≤ k → k < m → TakesRow protocol (seen_by k requestor request) (held_at old k) (held_at old k))
    → n ≤ m → Taking protocol requestor request old new n → Taking protocol requestor request old new m
Taking-past protocol requestor request old new n m stay up taking =
    record {
      same_length = taking.same_length;
      taken = λ k h. grind (arith, taking.taken k, taking.left k, stay k);
      left = λ k h. taking.left k (omega arith);
    }

-- memory, or a core below n
abbrev pub IsBelow : ℕ → Option ℕ → Type 0
IsBelow n other = IfSome other (λ core. core < n)

-- neither memory nor a core below n sends
abbrev pub SilentBelow : Protocol → Picture → ℕ → Request → ℕ → Type 0
SilentBelow p before core request n = (other : Option ℕ) (payload : Payload) → IsBelow n other → ¬ Sends p before core request other payload

module _ (p : Protocol) (before : Picture) (core : ℕ) (request : Request) where
  pub sends_below : (other : Option ℕ) (payload : Payload) → Sends p before core request other payload → IsBelow (length before.caches) other
  sends_below other payload sends = grind (arith, sends)

  -- memory does not send
  pub Silent-none : (act : MemAction) (next : MemState) → MemoryCell p before.memory.state (at_memory request) act next → ((payload : Payload) → act ≢ mem_action.Send payload) → SilentBelow p before core request 0
  Silent-none act next row none other payload below sends =
      grind (arith, below, row, none payload, sends)

  -- not all can be silent
  pub Silent-all : SilentBelow p before core request (length before.caches) → ¬ FollowsSenderTable p before core request
  Silent-all silent line = silent line.from line.payload (sends_below line.from line.payload line.sent.sends) line.sent.sends

  -- the next core sends nothing
  pub Silent-more : (n : ℕ) (act : CacheAction) (next : CacheState) → SilentBelow p before core request n
      → Cell p (held_by before n).state (seen_by n core request) act next
      → ((payload : Payload) (target : Target) → act ≡ action.Send payload target → ⊥) → SilentBelow p before core request (n + 1)
  Silent-more n act next so_far row silent other payload below sends =
      grind (arith, so_far other payload, below, sends, row, silent payload)

  -- cores that have nothing to do are passed over
  pub Silent-past : (n to : ℕ) → n ≤ to → ((k : ℕ) → n ≤ k → k < to → Cell p (held_by before k).state (seen_by k core request) action.None (held_by before k).state)
      → SilentBelow p before core request n → SilentBelow p before core request to
  Silent-past n to up idle silent other payload below sends =
      grind (arith, silent other payload, below, sends, idle, sends_is p before core request other payload sends)
