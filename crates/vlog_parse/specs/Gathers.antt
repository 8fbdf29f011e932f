-- Lists to which each part that is read adds some items.
use Rattle.std.specs.Prelude.{ℕ, List, [], ◌++◌, codes, not}
use Rattle.vlog_parse.specs.Reads.{◌>>=◌, ◌>>◌, Parser, expect, loop, pure, sees}

-- the items found so far, and those of one part more
unfoldable pub add : {A B : Type 0} → (A → List B) → Parser A → List B → Parser (List B)
add items_of part found = do
  a ← part
  pure (found ++ items_of a)

-- the same after a comma
unfoldable pub add_after_comma : {A B : Type 0} → (A → List B) → Parser A → List B → Parser (List B)
add_after_comma items_of part found = do
  expect (codes ",")
  add items_of part found

-- the items of one or more parts, with commas between
unfoldable pub gathered : {A B : Type 0} → (A → List B) → Parser A → Parser (List B)
gathered items_of part = do
  found ← add items_of part []
  loop (sees (codes ",")) (add_after_comma items_of part) found

-- the items found so far, and those of any number of parts, up to this reserved word or mark
unfoldable pub gathered_until : {A B : Type 0} → List ℕ → (A → List B) → Parser A → List B → Parser (List B)
gathered_until stop items_of part = loop (λ ts. not (sees stop ts)) (add items_of part)
