-- A plan's picture in SVG: where its parts lie, and how they are written. Assumes nothing.
use Rattle.std.specs.Prelude.{ℕ, ◌+◌, ◌*◌, ◌/◌, max, List, ◌++◌, codes, decimal}

-- how wide a column is
abbrev pub column_width : ℕ
column_width = 160

-- how high a row is
abbrev pub row_height : ℕ
row_height = 14

-- where the column of a round begins
abbrev pub column_left : ℕ → ℕ
column_left round = 70 + round * 260

-- where the row of a rank begins
abbrev pub row_top : ℕ → ℕ
row_top rank = 40 + rank * 24

-- how far into a column a pixel lies
abbrev pub across : ℕ → ℕ → ℕ
across pixel pixels = pixel * column_width / max pixels 1

-- the picture's beginning, on white
abbrev pub picture_head : ℕ → ℕ → List ℕ
picture_head width height =
    codes "<svg xmlns='http://www.w3.org/2000/svg' width='" ++ (decimal width ++ (codes "' height='" ++ (decimal height ++ codes "' font-family='sans-serif' font-size='11'>\n<rect width='100%' height='100%' fill='white'/>\n")))

-- a word and a number
abbrev pub label : ℕ → ℕ → List ℕ → ℕ → List ℕ
label x y word number = codes "<text x='" ++ (decimal x ++ (codes "' y='" ++ (decimal y ++ (codes "'>" ++ (word ++ (codes " " ++ (decimal number ++ codes "</text>\n")))))))

-- the bar of a span
abbrev pub bar : ℕ → ℕ → ℕ → List ℕ
bar x y width = codes "<rect x='" ++ (decimal x ++ (codes "' y='" ++ (decimal y ++ (codes "' width='" ++ (decimal width ++ (codes "' height='" ++ (decimal row_height ++ codes "' fill='#3b6ea5'/>\n")))))))

-- the frame of the whole tile
abbrev pub frame : ℕ → ℕ → List ℕ
frame x y = codes "<rect x='" ++ (decimal x ++ (codes "' y='" ++ (decimal y ++ (codes "' width='" ++ (decimal column_width ++ (codes "' height='" ++ (decimal row_height ++ codes "' fill='none' stroke='#bbb'/>\n")))))))

-- the line of a transfer
abbrev pub stroke : ℕ → ℕ → ℕ → ℕ → List ℕ
stroke left from right to =
    codes "<line x1='" ++ (decimal left ++ (codes "' y1='" ++ (decimal from ++ (codes "' x2='" ++ (decimal right ++ (codes "' y2='" ++ (decimal to ++ codes "' stroke='#c0562f' stroke-opacity='0.6'/>\n")))))))
