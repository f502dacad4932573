-- The colours of a drawing, and what stands around the sheets of a page.
-- Source: the words are those of CSS and HTML; which of them stand here is this project's profile.
use Rattle.std.specs.Prelude.{ℕ, List, ◌++◌, codes}
use Rattle.snoop_svg.specs.declared.paper.Theme.{Theme, TheVariants.{Auto, Light, Dark}}

-- the rules of each class, as they are on light ground
unfoldable pub light_rules : List ℕ
light_rules = codes "text{font:12px ui-monospace,Menlo,Consolas,\"DejaVu Sans Mono\",\"Liberation Mono\",monospace;fill:#1a1a1a}\n.paper{fill:#fff}.h,.l{stroke:#d0d0d0}.j{stroke:#808080;stroke-dasharray:1 5}\n.w{fill:#f0a050}.c{fill:#fbdcb4}.r{fill:#b5d8f0}.m{fill:#cfe6dc}.bus{fill:#f2f2f2}.b{fill:#d9d2e9}\n.s,.o{font-weight:700}.k,.t{fill:#404040}.z{fill:#a51d14}\n.u{stroke:#1a1a1a}.p{stroke:#1a1a1a;stroke-width:2;fill:#1a1a1a}.g{stroke:#0b4f7d;stroke-width:2;fill:#0b4f7d}\n.q,.d{stroke:#1a1a1a;stroke-width:2}.q{stroke-dasharray:2 4}.i{fill:#fff;stroke:#1a1a1a;stroke-width:2}\n.v{stroke:#a51d14;stroke-width:2;stroke-dasharray:4 4}.x{stroke:#a51d14;stroke-width:2;fill:none}\n.ask{fill:#fff;stroke:#1a1a1a}.edge{fill:#5c2e00}.done{fill:#1a1a1a;stroke:#1a1a1a}.y{fill:transparent}\na:focus{outline:none}a:focus .y{stroke:#1a1a1a;stroke-width:2}a:target .y{fill:#ffe98a}a:target~a{opacity:.12}\n"

-- what dark ground changes
unfoldable pub dark_rules : List ℕ
dark_rules = codes "text{fill:#f0f0f0}.paper,.i,.ask{fill:#15171a}.h,.l{stroke:#3c4046}.j{stroke:#909090}\n.w{fill:#8f4700}.c{fill:#573a15}.r{fill:#1d4f73}.m{fill:#1f4538}.bus{fill:#1d2024}.b{fill:#453f68}\n.k,.t{fill:#dcdcdc}.z{fill:#ffb4ab}.u,.q,.d,.i,.ask{stroke:#f0f0f0}.p,.done{stroke:#f0f0f0;fill:#f0f0f0}\n.edge{fill:#ffcf9e}.g{stroke:#9fd3f5;fill:#9fd3f5}.v,.x{stroke:#ffb4ab}a:focus .y{stroke:#f0f0f0}a:target .y{fill:#5a5110}\n"

-- the same for a reader whose system asks for it
abbrev pub dark_where_asked : List ℕ
dark_where_asked = codes "@media screen and (prefers-color-scheme:dark){\n" ++ dark_rules ++ codes "}\n"

-- the rules for a theme
abbrev pub style : Theme → List ℕ
style Auto = light_rules ++ dark_where_asked
style Light = light_rules
style Dark = light_rules ++ dark_rules

-- the schemes of colours that a page takes
abbrev pub schemes : Theme → List ℕ
schemes Auto = codes "light dark"
schemes Light = codes "light"
schemes Dark = codes "dark"

-- what stands before the schemes
unfoldable pub page_top : List ℕ
page_top = codes "<!DOCTYPE html>\n<html lang=\"en\">\n<head>\n<meta charset=\"utf-8\">\n<title>Snoop</title>\n<style>\n:root{color-scheme:"

-- what stands behind the schemes, before the rules
unfoldable pub page_rules : List ℕ
page_rules = codes "}\nbody{margin:0 0 12em;font:12px ui-monospace,Menlo,Consolas,\"DejaVu Sans Mono\",monospace}\nsvg{display:block;margin:0 0 24px;break-inside:avoid}\nsvg:has(a:target)~svg a{opacity:.12}\nhtml{scroll-padding:56px 0 11em}\n#names{position:sticky;top:0;z-index:1;margin-bottom:-56px;box-shadow:0 1px #808080}\npre{position:fixed;left:0;right:0;bottom:0;margin:0;padding:10px 12px;max-height:11em;overflow:auto;background:Canvas;border-top:2px solid;font-size:14px}\n@media print{pre,#names{display:none}body,svg{margin:0}svg{width:auto;height:auto;max-width:100%;max-height:100vh}}\n"

-- what stands between the rules and the first sheet
unfoldable pub page_middle : List ℕ
page_middle = codes "</style>\n</head>\n<body>\n"

-- what stands behind the last sheet
unfoldable pub page_end : List ℕ
page_end = codes "<pre aria-live=\"polite\">Click a row, or go through the steps with the arrow keys. Esc shows the whole run.</pre>\n<script>\nconst rows = [...document.querySelectorAll(\"a[id]\")], notes = document.querySelector(\"pre\"), hint = notes.textContent;\nconst sheet = document.querySelector(\"svg\"), names = sheet.cloneNode();\nnames.id = \"names\";\nnames.setAttribute(\"height\", 56);\nnames.setAttribute(\"viewBox\", `0 0 ${names.getAttribute(\"width\")} 56`);\nnames.setAttribute(\"aria-hidden\", true);\nfor (const part of sheet.children) {\n  if (part.matches(\".paper\") || part.matches(\"text\") && part.getAttribute(\"y\") < 56) names.append(part.cloneNode(true));\n}\ndocument.body.prepend(names);\nconst at = () => rows.findIndex(row => \"#\" + row.id === location.hash);\nfunction show() {\n  const row = rows[at()];\n  notes.textContent = row ? row.querySelector(\"title\").textContent : hint;\n  if (!row) return;\n  row.scrollIntoView({block: \"center\"});\n  const marks = [...row.querySelectorAll(\".o,.a,.i,.x,.p,.g,.v\")].map(mark => mark.getBoundingClientRect());\n  if (!marks.length) return;\n  const left = Math.min(...marks.map(mark => mark.left)), right = Math.max(...marks.map(mark => mark.right));\n  const panels = [...names.querySelectorAll(\".t\"), row.querySelectorAll(\"text\")[2]].map(text => text.getBoundingClientRect().left);\n  const start = Math.max(...panels.filter(x => x <= left)), end = Math.min(...panels.filter(x => x > left));\n  const wide = document.documentElement.clientWidth, [from, to] = end - start > wide ? [left - 48, right + 48] : [start, end];\n  scrollBy(from < 0 || to - from > wide ? from : Math.max(0, to - wide), 0);\n}\naddEventListener(\"hashchange\", show);\naddEventListener(\"keydown\", event => {\n  if (event.altKey || event.ctrlKey || event.metaKey || event.shiftKey) return;\n  const by = {ArrowDown: 1, ArrowRight: 1, PageDown: 1, ArrowUp: -1, ArrowLeft: -1, PageUp: -1}[event.key];\n  if (event.key === \"Escape\") location.replace(\"#all\");\n  if (!by || !rows.length) return;\n  event.preventDefault();\n  location.replace(\"#\" + rows[Math.max(0, Math.min(rows.length - 1, at() + by))].id);\n});\naddEventListener(\"load\", show);\n</script>\n</body>\n</html>\n"

-- all that stands before the first sheet of a page
abbrev pub page_head : Theme → List ℕ
page_head theme = page_top ++ schemes theme ++ page_rules ++ style theme ++ page_middle
