use Rattle.snoop_machine.proofs.Common.{◌≡◌, ℕ, length, replicate, refl, ◌∙◌, ap, arith, common_steps, err_from_is_err_and, length-replicate, get_or-replicate, nothing_held, no_holders, is_owner, replicated, List, Contents, slice_index_or, no_cache, [], line_in, lines_held, constant, held_by_block, sym, map, blocks_of, ◌++◌, ◌∷◌}
use Rattle.{snoop_blocks.proofs.CoreSets.{no_cores}, snoop_model.proofs.Invariant.Runs.{nothing_proper}}
use Rattle.std.proofs.lemmas.List.FromFn.{fill_by_all}
use Rattle.snoop_machine.proofs.lines.Lines.new.Goals as goal
use Rattle.snoop_machine.proofs.lines.Lines.new.Goals.{In_ok-holders}

-- maps without entries hold nothing anywhere
module _ (caches : List Contents) (empty : (core : ℕ) → (slice_index_or caches core no_cache).entries ≡ []) where
  row-empty : (block : ℕ) → lines_held caches block ≡ replicate (length caches) nothing_held
  row-empty block = constant (λ (cache : Contents). line_in cache block) caches no_cache nothing_held (λ core. rw (empty core) refl)

  rows-empty : (blocks : ℕ) → held_by_block blocks caches ≡ replicate blocks (replicate (length caches) nothing_held)
  rows-empty blocks =
      sym (fill_by_all (lines_held caches) (replicate blocks (replicate (length caches) nothing_held)) blocks [] (length-replicate blocks _)
      (λ b within. get_or-replicate blocks b (replicate (length caches) nothing_held) [] within ∙ sym (row-empty b)))

  blocks-empty : map blocks_of caches ≡ replicate (length caches) []
  blocks-empty = constant blocks_of caches no_cache [] (λ core. rw (empty core) refl)

  -- nor does one more
  empty-push : (cache : Contents) → cache.entries ≡ [] → (core : ℕ) → (slice_index_or (caches ++ cache ∷ []) core no_cache).entries ≡ []
  empty-push cache own core = grind (arith, common_steps, empty core)

counted : (g : _) (c : In_ok-holders g) → length c.loop.caches.items ≡ c.args.shape.cores
counted g c = omega (arith, c.loop.invariant.1, c.loop-test.false, c.loop.auto.counter-end, c.cores-cores.ensures.value)

holders_are : (g : _) (c : In_ok-holders g) → c.in_ok-holders.holders ≡ replicate c.args.shape.blocks c.default.result
holders_are g c = c.in_ok-holders.ensures ∙ ap (λ (n : ℕ). replicate n c.default.result) c.blocks-2.ensures.value

pub loop-preserved : goal.loop-preserved
loop-preserved g c = (
  rw c.push_reserved.ensures.items (empty-push _ c.loop.invariant.0 _ c.new.ensures.empty),
  grind (arith, common_steps),
  grind (arith, common_steps),
)

pub returns-in_err-holders : goal.returns-in_err-holders
returns-in_err-holders g c = rw (err_from_is_err_and c.from_residual-in_err-holders.result c.from_residual-in_err-holders.ensures.1).1 (record { rows = tt; lines = tt })

pub invariant_of-result : goal.invariant_of-result
unfolding is_owner
invariant_of-result g c =
    let d = (goal.at.invariant_of-result g c).In_ok-holders in
    let caches = c.loop.caches.items in
    let blocks = c.args.shape.blocks in
    record {
      few = omega (arith, counted g d, c.requires);
      proper = λ core block. rw (c.loop.invariant.0 core) nothing_proper;
      indexed = λ block lt.
          let within = rw (holders_are g d, length-replicate blocks c.default.result) at lt in
          rw (holders_are g d, get_or-replicate blocks block c.default.result no_holders within, row-empty caches c.loop.invariant.0 block) (record {
            owners = λ core. rw (replicated (length caches) core nothing_held) (no_cores _ c.default.ensures.0 core);
            readers = λ core. rw (replicated (length caches) core nothing_held) (no_cores _ c.default.ensures.1 core);
          });
    }

pub returns : goal.returns
returns g c =
    let d = (goal.at.returns g c).In_ok-holders in
    let caches = c.loop.caches.items in
    record {
      rows = rw (holders_are g d, length-replicate c.args.shape.blocks c.default.result, rows-empty caches c.loop.invariant.0 c.args.shape.blocks, counted g d) refl;
      lines = rw (blocks-empty caches c.loop.invariant.0, counted g d) refl;
    }
