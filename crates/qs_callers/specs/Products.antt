-- The page after one.
use Rattle.std.specs.Prelude.{ℕ, ◌+◌, cond, nat_lt, Option, Some, None}
use Rattle.qs_callers.specs.declared.products.Products.{Products}

-- the second page is after the first, which no number stands for; the last one that there is a number for has none after it
abbrev pub page_after : Option ℕ → ℕ
page_after None = 2
page_after (Some page) = cond (nat_lt page 4294967295) (page + 1) page

-- the same search, on the page after this one
abbrev pub turned : Products → Products
turned products = record products { page = Some (page_after products.page) }
