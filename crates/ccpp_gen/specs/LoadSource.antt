-- The load program: a ring of cells that a call is handed round, a tree of branches, and two numbers that say how many.
use Rattle.std.specs.Prelude.{ℕ, ◌+◌, ◌%◌, List, [], ◌∷◌, ◌++◌, codes, decimal}
use Rattle.std.specs.List.{flat_map}

-- its lines, with so many cells and so wide a tree
abbrev pub lines : (cells wide : List ℕ) → List (List ℕ)
lines cells wide =
    codes "#include <iostream.h>"
    ∷ (codes "const int CELLS = " ++ cells ++ codes ";")
    ∷ (codes "const int WIDE = " ++ wide ++ codes ";")
    ∷ codes "global class Cell {"
    ∷ codes "public:"
    ∷ codes "  int own;"
    ∷ codes "  Cell *global sync next;"
    ∷ codes "  Cell(int k) { own = k; }"
    ∷ codes "  int pass(int hops, int sum) {"
    ∷ codes "    if (hops == 0) return sum;"
    ∷ codes "    return next->pass(hops - 1, sum + own);"
    ∷ codes "  }"
    ∷ codes "};"
    ∷ codes "int tree(int lo, int hi) {"
    ∷ codes "  if (hi - lo == 1) return lo;"
    ∷ codes "  int mid = (lo + hi) / 2;"
    ∷ codes "  sync int a, b;"
    ∷ codes "  par { a = tree(lo, mid); b = tree(mid, hi); }"
    ∷ codes "  return a + b;"
    ∷ codes "}"
    ∷ codes "int main() {"
    ∷ codes "  Cell *global c[CELLS];"
    ∷ codes "  for (int i = 0; i < CELLS; i++) c[i] = new Cell(i + 1);"
    ∷ codes "  parfor (int i = 0; i < CELLS; i++) c[i]->next = c[(i + 1) % CELLS];"
    ∷ codes "  int s = c[0]->pass(WIDE, 0);"
    ∷ codes "  int t = tree(0, WIDE);"
    ∷ codes "  cout << s << \" \" << t << endl;"
    ∷ codes "  return s + t;"
    ∷ codes "}"
    ∷ []

-- each line with its end
abbrev pub text_of : List (List ℕ) → List ℕ
text_of = flat_map (λ line. line ++ codes "\n")

-- of the size n: 1 + n mod 8 cells, and a tree of n leaves
unfoldable pub load_source : ℕ → List ℕ
load_source n = text_of (lines (decimal (1 + n % 8)) (decimal n))
