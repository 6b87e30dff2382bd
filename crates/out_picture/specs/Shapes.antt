-- Squares, marks and lines of text at places of a picture.
use Rattle.std.specs.Prelude.{ℕ, List, ◌++◌, codes, decimal}
use Rattle.out_markup.specs.Markup.{attribute, number_attribute, element, empty_element}

-- a path that begins at a point and goes on with these steps
unfoldable pub path_from : ℕ → ℕ → List ℕ → List ℕ
path_from x y steps = attribute (codes "d") (codes "M" ++ (decimal x ++ (codes " " ++ (decimal y ++ steps))))

-- the place of an element
unfoldable pub place_at : ℕ → ℕ → List ℕ
place_at x y = number_attribute (codes "x") x ++ number_attribute (codes "y") y

-- a line of text
unfoldable pub text_at : ℕ → ℕ → List ℕ → List ℕ
text_at x y content = element (codes "text") (place_at x y) content

-- a line of text with a class
unfoldable pub text_element : List ℕ → ℕ → ℕ → List ℕ → List ℕ
text_element class x y content = element (codes "text") (attribute (codes "class") class ++ place_at x y) content

-- a path with a class
unfoldable pub path_element : List ℕ → ℕ → ℕ → List ℕ → List ℕ
path_element class x y steps = empty_element (codes "path") (attribute (codes "class") class ++ path_from x y steps)
