-- The names that the proofs of the texts and the matrices use, passed on from one place.
pub use Rattle.std.{proofs.{Common.{◌≡◌, ◌++◌, take, codes, arith}, lemmas.Grind.common_steps}, specs.List.{filter, flat_map}}
pub use Rattle.snoop_rules.{specs.Names.{event_name, memory_event_name, memory_state_name, state_name}, proofs.TextLemmas.{kept_more, piece_more}}
pub use Rattle.snoop_rules.specs.TableOrder.{cache_events, cache_states, memory_events, memory_states}
unfoldable pub use Rattle.snoop_rules.specs.TableText.{cache_text, memory_text, cache_line_at, memory_line_at}
pub use Rattle.snoop_rules.specs.Matrix.{cache_field, is_cache_event, is_cache_state, is_memory_event, is_memory_state, line_of, memory_field}
