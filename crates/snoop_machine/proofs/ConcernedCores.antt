-- The cores that a request concerns; each other core's row changes nothing and sends nothing.
use Rattle.snoop_machine.proofs.Common.{◌≡◌, ℕ, ◌<◌, List, length, true, false, Some, sym, arith, ne_eqb, get_or_past, Protocol, Cell, seen_by, waiting_request, CacheState, Request, has, TakesRow, Line, held_at, nothing_held, IsProper, is_owner}
use Rattle.snoop_rules.specs.declared.names.CacheState.TheVariants as state
use Rattle.snoop_rules.specs.declared.names.CacheAction.{CacheAction}
use Rattle.snoop_rules.specs.declared.names.CacheAction.TheVariants as action
use Rattle.snoop_model.specs.Moves.LookUps.{HasRow}
use Rattle.snoop_machine.{specs.Holders.AreConcerned, proofs.LineMaps.moves_to_same}

module _ {lines : List Line} {core : ℕ} {q : Request} {set : List ℕ} (concerned : AreConcerned lines core q set) where
  -- they are cores that there are
  pub concerned_within : core < length lines → (k : ℕ) → has set k ≡ true → k < length lines
  unfolding is_owner
  concerned_within within k in_set = grind (arith, get_or_past lines k nothing_held, concerned.others k)

  module _ (p : Protocol) (rows : (k : ℕ) → k < length lines → HasRow p (held_at lines k).state (seen_by k core q)) (k : ℕ) (within : k < length lines)
      (out : has set k ≡ false) where
    -- the row of a core that the request does not concern
    pub Cell-passed : Cell p (held_at lines k).state (seen_by k core q) action.None (held_at lines k).state
    unfolding is_owner
    Cell-passed = grind (arith, ne_eqb k core, concerned.own, concerned.others k, rows k within)

    -- its line stays as it is
    pub TakesRow-passed : IsProper (held_at lines k) → TakesRow p (seen_by k core q) (held_at lines k) (held_at lines k)
    TakesRow-passed proper = (record { action = action.None; next = (held_at lines k).state }, Cell-passed, sym (moves_to_same (held_at lines k) proper))

-- a core whose request waits is one that there is
pub waits_within : (lines : List Line) (core : ℕ) (q : Request) → waiting_request (held_at lines core).state ≡ Some q → core < length lines
waits_within lines core q waits = grind (arith, get_or_past lines core nothing_held)

-- a core in I stays there at an Order
pub Cell-leaves : (p : Protocol) (k core : ℕ) (q : Request) (act : CacheAction) (next : CacheState) → Cell p state.I (seen_by k core q) act next → next ≡ state.I
Cell-leaves p k core q act next row = grind arith
