-- The style of a picture.
use Rattle.std.specs.Prelude.{ℕ, List, ◌++◌, codes}
use Rattle.out_markup.specs.Markup.{attribute, element}

-- the page, texts and squares
unfoldable pub basic_rules : List ℕ
basic_rules = codes ".disk text{font:12px sans-serif;fill:#2d3440}\n.disk .head{font:bold 18px sans-serif}\n.disk .start,.disk .middle,.disk .end{font:11px monospace;fill:#6b7280}\n.disk .middle{text-anchor:middle}\n.disk .end{text-anchor:end}\n.disk path{stroke-width:4;stroke-linejoin:round;stroke-linecap:round}\n.disk .page{fill:#fff}\n.disk .free{fill:#eff1f4;stroke:#eff1f4}\n.disk .unowned{fill:#cdd2d9;stroke:#cdd2d9}\n.disk .system{fill:#4b5563;stroke:#4b5563}\n"

-- the colours of files: eight that can be told apart with any colour vision (Paul Tol's light
-- scheme), and the same eight with a frame
unfoldable pub colour_rules : List ℕ
colour_rules = codes ".disk .c0{fill:#7ad;stroke:#7ad}\n.disk .c1{fill:#e86;stroke:#e86}\n.disk .c2{fill:#4b9;stroke:#4b9}\n.disk .c3{fill:#fab;stroke:#fab}\n.disk .c4{fill:#aa0;stroke:#aa0}\n.disk .c5{fill:#9df;stroke:#9df}\n.disk .c6{fill:#ed8;stroke:#ed8}\n.disk .c7{fill:#bc3;stroke:#bc3}\n.disk .c8{fill:#7ad;stroke:#456;stroke-width:3}\n.disk .c9{fill:#e86;stroke:#456;stroke-width:3}\n.disk .c10{fill:#4b9;stroke:#456;stroke-width:3}\n.disk .c11{fill:#fab;stroke:#456;stroke-width:3}\n.disk .c12{fill:#aa0;stroke:#456;stroke-width:3}\n.disk .c13{fill:#9df;stroke:#456;stroke-width:3}\n.disk .c14{fill:#ed8;stroke:#456;stroke-width:3}\n.disk .c15{fill:#bc3;stroke:#456;stroke-width:3}\n"

-- the marks
unfoldable pub mark_rules : List ℕ
mark_rules = codes ".disk .dot{fill:none;stroke:#6b7280;stroke-width:5;pointer-events:none}\n.disk .bad{fill:#fff;stroke:#a11;stroke-width:2;pointer-events:none}\n"

-- the regions of a picture inside a page, on whose grid a cell is one wide
unfoldable pub region_rules : List ℕ
region_rules = codes ".disk .cells path{stroke:#fff;stroke-width:.1}\n.disk .cells .dot{stroke:#6b7280;stroke-width:.23}\n.disk .cells :is(.c8,.c9,.c10,.c11,.c12,.c13,.c14,.c15){stroke:#456;stroke-width:.13}\n"

-- the rules of all pictures inside a page
unfoldable pub picture_rules : List ℕ
picture_rules = (basic_rules ++ (colour_rules ++ mark_rules)) ++ region_rules

-- all rules
unfoldable pub style : List ℕ
style = element (codes "style") (attribute (codes "type") (codes "text/css")) (codes "\n" ++ (basic_rules ++ (colour_rules ++ mark_rules))) ++ codes "\n"
