-- The document by which a load is configured.
use Rattle.std.specs.Prelude.{ℕ, List, ◌++◌, codes}

-- a journal of 2^30, and a context with the extensions `d0`, which answers and parks, `d1`, which is busy, and `d2`, which answers after
-- 200 ms and parks
unfoldable pub load_document : List ℕ
load_document =
    codes "<document>\n"
    ++ codes "<section name='configuration'><configuration name='switch.conf'><settings>\n"
    ++ codes "<param name='journal-limit' value='1073741824'/>\n"
    ++ codes "</settings></configuration></section>\n"
    ++ codes "<section name='dialplan'><context name='default'>\n"
    ++ codes "<extension><condition field='destination_number' expression='^d0$'>\n"
    ++ codes "<action application='answer'/><action application='park'/>\n"
    ++ codes "</condition></extension>\n"
    ++ codes "<extension><condition field='destination_number' expression='^d1$'>\n"
    ++ codes "<action application='hangup' data='USER_BUSY'/>\n"
    ++ codes "</condition></extension>\n"
    ++ codes "<extension><condition field='destination_number' expression='^d2$'>\n"
    ++ codes "<action application='sleep' data='200'/><action application='answer'/><action application='park'/>\n"
    ++ codes "</condition></extension>\n"
    ++ codes "</context></section>\n"
    ++ codes "</document>\n"
