-- What callers see of a log, and how it counts on.
-- Source: this project's profile.
use Rattle.std.specs.Prelude.{ℕ, ◌+◌, Bool, not, ◌&&◌, is_some, is_none, List, if◌then◌else◌}
use Rattle.snoop_history.specs.declared.items.{Item.Item, Totals.Totals}
use Rattle.snoop_history.specs.Totals.{capped, performed, ordered, responded, is_get_s, is_get_m, is_put_m, is_data, is_no_data, is_no_data_e}

-- the shape, the items in order, and for how many more there is room
pub record Journal : Type 0 where
  pub cores : ℕ
  pub blocks : ℕ
  pub words : ℕ
  pub items : List Item
  pub room : ℕ

-- a counter one up where something is counted; it stops at the largest u64
abbrev pub counted : ℕ → Bool → ℕ
counted n here = if here then capped (n + 1) else n

-- the counts with one more item
abbrev pub tallied : Totals → Item → Totals
tallied t entry =
    record {
      loads = counted t.loads (performed (λ did. did.load) entry);
      load_hits = counted t.load_hits (performed (λ did. did.load && did.hit) entry);
      stores = counted t.stores (performed (λ did. not did.load) entry);
      store_hits = counted t.store_hits (performed (λ did. not did.load && did.hit) entry);
      get_s = counted t.get_s (ordered is_get_s entry);
      get_m = counted t.get_m (ordered is_get_m entry);
      put_m = counted t.put_m (ordered is_put_m entry);
      from_memory = counted t.from_memory (responded (λ came. is_none came.from) entry);
      from_caches = counted t.from_caches (responded (λ came. is_some came.from && not (is_put_m came.request)) entry);
      writebacks = counted t.writebacks (responded (λ came. is_put_m came.request && is_data came.payload) entry);
      clean = counted t.clean (responded (λ came. is_put_m came.request && is_no_data_e came.payload) entry);
      stale = counted t.stale (responded (λ came. is_put_m came.request && is_no_data came.payload) entry);
    }
