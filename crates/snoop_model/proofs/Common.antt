-- The names that lemmas of the model use most, passed on from one place.
pub use Rattle.std.proofs.Common.{[], ap, append_assoc, arith, Bool, cond, count_by, eqb, false, get_or, inl, inr, length, List, MatchBool, None, not, Option, option_and_then, refl, replicate, rules, Some, subst, suc, sym, true, zero, zero-add, ℕ, ◌&&◌, ◌++◌, ◌+◌, ◌||◌, ◌∙◌, ◌∷◌, ◌≡◌, ◌≢◌, ◌⊎◌}
pub use Rattle.std.specs.Prelude.{is_some, All, Contains, Err, IfOk, IfSome, IsSome, IsSomeAnd, Ok, Result, filter, filter_map, if◌then◌else◌, map, option_map, option_to_list, slice_get, slice_index_or, slice_set, sum_by, unwrap_or, ◌<◌, ◌==◌, ◌↔◌, ◌≤◌}
pub use Rattle.std.{specs.{List.{list_any, cons_option, range_with_len, Sorted.IsPermutation}, Option.{option_map_or, ForSome, option_or}}, proofs.Math.Dec.ltb}
pub use Rattle.std.proofs.lemmas.Bool.{and_parts, both_ways, cases_Bool, cases_eq, cond_both, not-true, or_cases, eq-eqb, eqb-true, false_from_ne_true, le-ltb, lt-ltb, ltb-false, ltb-true, ne_eqb, Decides.eqb_tells}
pub use Rattle.std.proofs.lemmas.List.{get_or_past, append-nil, append_cancel_left, get_or-replicate, get_or-set_other, get_or-set_same, length-replicate, length-set, map-append, length_push, set_past}
pub use Rattle.std.proofs.lemmas.List.Elements.{All-append, All-cons, All-contains, All-filter, All-nil, All-push, All-weaker, Contains-append_cases, Contains-append_left, Contains-append_right, Contains-get_or, filter-append, filter_map-append}
pub use Rattle.std.proofs.{lemmas.List.FromFn.{fill_by_all, get_or-map-range_with_len, length-map-range_with_len}, Math.Bool.{and-false, and-true}}
pub use Rattle.std.proofs.lemmas.List.Sorted.{Contains-permutation, IsPermutation-append_comm, IsPermutation-append_left, IsPermutation-append_right, IsPermutation-refl, IsPermutation-sym, IsPermutation-trans}
pub use Rattle.std.proofs.lemmas.List.Sums.{count_by-le-length, get_or-le-sum_by, length-filter, sum_by-cons, sum_by-set, sum_by_push}
pub use Rattle.std.proofs.lemmas.Option.{cond_some, none-some, same_Some, IfSome_then, slice_get-get_or, get_or_from_slice_get, slice_get_within}
pub use Rattle.snoop_trace.specs.{Extent.Extent, declared.{protocol.Protocol.Protocol, step.{Op.{Op, TheVariants.{Evict, Load, Store}}, Step.{Step, TheVariants.{Ask, Order, Respond}}}}}
pub use Rattle.snoop_rules.specs.declared.names.{CacheState.CacheState, CacheEvent.CacheEvent, CacheAction.CacheAction, CacheCell.CacheCell, MemState.MemState}
pub use Rattle.snoop_rules.specs.declared.names.{MemEvent.MemEvent, MemAction.MemAction, MemCell.MemCell, Request.Request, Payload.Payload, Target.Target}
pub use Rattle.snoop_rules.specs.{declared.names.Request.TheVariants.{GetM, GetS, PutM}, Cell.{Cell, cell_of, is_hit}, MemoryCell.{MemoryCell, memory_cell_of}}
pub use Rattle.snoop_rules.specs.Takers.{arrival, arrival_at_memory, asked, at_memory, carries_value, other, own, seen_by, takes_payload}
pub use Rattle.snoop_rules.specs.{Waits.waiting_request, WhoSends.{Memory, Other, Requestor, Sender, lines_of, sender_of}}
pub use Rattle.snoop_history.specs.{Totals.{is_get_m, is_put_m}, declared.items.{Did.Did, Item.Item}}
pub use Rattle.snoop_history.specs.History.{IsNext, Legal, answers_of, flat, flat_words, is_store_to, last_of, last_or, operation_of, operations}
pub use Rattle.snoop_bus.specs.{Traffic.Open, Queues.{after_issue, after_order, queue_of}}
pub use Rattle.snoop_model.specs.{declared.{access.Access.Access, replies.{Reply.Reply, Refused.Refused}}, Pictures.Lines.{Line, MemLine}}
pub use Rattle.snoop_model.specs.Pictures.Picture.{Picture, first_memory, free_picture, held_at, held_by, kept_on, nothing_held, with_line}
pub use Rattle.snoop_model.specs.Pictures.Situation.{CanOrder, HasOpen, IsShaped, Situation, StandsFirst, Waits, nothing_there, picture_of, reset, state_of, untouched, with_picture}
pub use Rattle.snoop_model.specs.Pictures.{Proper.{IsProper, awaited_request, keeps, missed_request, request_for}, Sends.{IsOnlySender, Sends, value_sent}}
pub use Rattle.snoop_model.specs.Moves.Move.{ArrivesFor, Asks, FillsRequestor, FirstMove, Hits, IsWithin, MoveOn, Orders, Responds, Takes, TakesRow, TakesRows, came_of, is_load, as_access, moves_to, next_did, queues_after, written}
pub use Rattle.snoop_model.specs.Moves.{Refuses.{Refuses, WaitsOnNone}, SenderTable.{IsOpenByTable, IsSenderLine, OrdersFollowSenderTable, FollowsSenderTable}}
pub use Rattle.snoop_model.specs.Invariant.{Fits.{Claims, Talk}, Block.{BlockInvariant, own_open, owns, talk_of}, WellKept.IsWellKept, Invariant.Invariant}
unfoldable pub use Rattle.snoop_model.specs.Invariant.Fits.{claims_of, fits, in_protocol, is_clean, is_owner, is_sharer, same, wait_fits}
pub use Rattle.snoop_model.specs.Runs.Once.{Once, OnceMore, accesses_in, asked_access, did_access, taken, waiting_at}
pub use Rattle.snoop_model.specs.Runs.{Owed.{IsLast, IsOwed}, Run.{FirstRunFrom, Goes, GoesFirst, RunBy, TakenGoesOn}}
pub use Rattle.snoop_model.specs.{Turns.Serving.{IsServing, has_transaction}, declared.replies.Reply.TheVariants.{Absent, Gone, Issued}}
pub use Rattle.snoop_model.specs.Turns.TurnLaws.{KeepsWell, NeverRefused, Pays, ServesOn, StartsWell, TurnLaws}
pub use Rattle.snoop_trace.specs.Words.{Data, HasWord, IsWord, word_at, word_places, words_after, zero_words}
pub use Rattle.snoop_history.proofs.Pushed.{last_or-append, none_from_not_some, of_core, operations-push}
unfoldable pub use Rattle.snoop_rules.proofs.Every.{all_events, all_memories, all_payloads, all_protocols, all_requests, all_states}
pub use Rattle.snoop_rules.proofs.Every.{all_events-at, all_memories-at, all_payloads-at, all_protocols-at, all_requests-at, all_states-at}
pub use denote.Enum.Bare.{Bare, same_true, sameb}
pub use Rattle.snoop_rules.specs.declared.names.{CacheAction.TheVariants.{Drop, FillLoad, FillStore, Hit, Issue, Stall}, CacheState.TheVariants.{E, EiA, I}}
pub use Rattle.snoop_rules.specs.contracts.names.{CacheState.the_type as states, MemState.the_type as memories, Payload.the_type as payloads, Request.the_type as requests}
pub use Rattle.snoop_model.specs.declared.replies.Refused.TheVariants.{BusTaken, NoBlock, NoCore, NothingWaiting, NoTransaction, Stalled}
