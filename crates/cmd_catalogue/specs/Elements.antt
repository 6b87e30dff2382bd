-- Elements whose content is a text.
use Rattle.std.specs.Prelude.{ℕ, List, ◌++◌, Option, Some, None, codes}
use Rattle.out_markup.specs.Markup.{attribute, element, escaped_text}

-- an element with these attributes whose content is a text, in which no byte makes markup
unfoldable pub text_in : List ℕ → List ℕ → List ℕ → List ℕ
text_in name attributes text = element name attributes (escaped_text text)

-- such an element on a line of its own
unfoldable pub text_line : List ℕ → List ℕ → List ℕ → List ℕ
text_line name attributes text = text_in name attributes text ++ codes "\n"

-- a text that is a link to a URL, if there is one
abbrev pub linked_text : Option (List ℕ) → List ℕ → List ℕ
linked_text None text = escaped_text text
linked_text (Some url) text = text_in (codes "a") (attribute (codes "href") (escaped_text url)) text

-- an element with these attributes whose content is such a text
unfoldable pub linked_text_in : List ℕ → List ℕ → Option (List ℕ) → List ℕ → List ℕ
linked_text_in name attributes link text = element name attributes (linked_text link text)
