-- What a log's board says of its items.
use Rattle.std.proofs.Common.{◌≡◌, ℕ, ◌<◌, ◌≤◌, List, [], ◌∷◌, length, Option, refl, sym, ap, ◌∙◌, map, get_or}
use Rattle.std.specs.Prelude.{All, slice_get, unwrap_or}
use Rattle.snoop_history.{proofs.Common.{Item, filter_map, same_lists, slice_get-get_or}}
use Rattle.snoop_history.{proofs.Common.{unwrap_or-slice_get}, specs.{Within.{IsItemWithin, inside}, Totals.touched}}
use Rattle.snoop_history.{specs.{Board.{Tables, board_of}, Kept.{IsKeptList, IsTallied}}, proofs.{Boards.{inside_all, board-cores}}}

-- lists that are as long and have the same at each place
pub same-places : {A : Type 0} (xs ys : List A) → length xs ≡ length ys → ((k : ℕ) → k < length xs → slice_get xs k ≡ slice_get ys k) → xs ≡ ys
same-places xs ys many same = same_lists xs ys many (λ k d within. sym (unwrap_or-slice_get xs k d) ∙ ap (λ o. unwrap_or o d) (same k within) ∙ unwrap_or-slice_get ys k d)

-- what a function gives of each of a list of values of another
pub filter_map-map : {X Y Z : Type 0} (f : X → Y) (g : Y → Option Z) (xs : List X) → filter_map (λ x. g (f x)) xs ≡ filter_map g (map f xs)
filter_map-map f g [] = refl
filter_map-map f g (x ∷ xs) = rw (filter_map-map f g xs)

-- a log's board, the sizes of its shape read from it
pub tallied_as : {cores blocks words : ℕ} {items : List Item} {board : Tables} {order : List ℕ} → cores ≤ 256 → blocks ≤ 65536 → words ≤ 64 → IsKeptList cores blocks words items
    → board ≡ board_of cores blocks words items → order ≡ touched items → IsTallied (length board.counts) board.blocks board.words items board order
tallied_as {cores} {blocks} {words} {items} few_cores few_blocks few_words listed tallied mentioned =
    rw (tallied, board-cores cores blocks words items) (record { few_cores = few_cores; few_blocks = few_blocks; few_words = few_words; listed = listed; tallied = refl; mentioned = mentioned })

module _ {cores blocks words : ℕ} {items : List Item} {board : Tables} {order : List ℕ} (kept : IsTallied cores blocks words items board order) where
  pub within_all : All (IsItemWithin cores blocks words) items
  within_all k d within = kept.listed.within k (get_or items k d) (slice_get-get_or items k d within)

  pub all_inside : inside cores blocks words items ≡ items
  all_inside = inside_all cores blocks words items within_all
